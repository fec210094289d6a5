-- Where the row of a name stands in the table.
use Rattle.std.specs.Prelude.{ℕ, ◌+◌, ◌-◌, ◌*◌, ◌<◌, ◌≤◌}
use Rattle.spin_word.specs.declared.command.TheConstants.{MAX_PLACE, MAX_LANES}
use Rattle.spin_log.specs.Rows.{rows_start}

-- where the row of this name begins
abbrev pub place_of : ℕ → ℕ
place_of name = rows_start + 4 * (name - 1)

-- the name of a row that lies in a table of so many words
abbrev pub IsNameIn : ℕ → ℕ → Type 0
IsNameIn words name = (0 < name) × (name ≤ MAX_PLACE * MAX_LANES) × (place_of name + 4 ≤ words)
