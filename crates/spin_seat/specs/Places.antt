-- Places of a log that follows on a state. A log from the start has its rows at the places from 1 on, and one that
-- follows on another state at those past that state's place. Both are by cases, so that they compute at the start.
use Rattle.std.specs.Prelude.{ℕ, zero, suc, ◌+◌, ◌-◌}

-- the place that lies so many rows past this one
abbrev pub place_past : ℕ → ℕ → ℕ
place_past zero rows = rows
place_past (suc first) rows = suc first + rows

-- how many rows that place lies past this one
abbrev pub rows_past : ℕ → ℕ → ℕ
rows_past zero place = place
rows_past (suc first) place = place - suc first
