-- What has happened to a log, in one order: rows were published, and lanes found that no row was
-- there.
use Rattle.std.specs.Prelude.{ℕ, ◌+◌, ◌==◌, cond, List, [], ◌∷◌}
use Rattle.spin_word.specs.declared.row.Row.{Row}
use Rattle.spin_word.specs.Rows.{lane_of}

-- a row was published, or a lane found no next row
pub data LogAction : Type 0 where
  publish : Row → LogAction
  pin : ℕ → LogAction

-- the lane whose moment it is
abbrev pub lane_at : LogAction → ℕ
lane_at (publish row) = lane_of row
lane_at (pin lane) = lane

-- the rows, in the order in which they were published
abbrev pub rows_in : List LogAction → List Row
rows_in [] = []
rows_in (publish row ∷ moments) = row ∷ rows_in moments
rows_in (pin lane ∷ moments) = rows_in moments

-- for each pin of the lane, how many rows were published before it, where n were before them all
abbrev pub pins_from : ℕ → ℕ → List LogAction → List ℕ
pins_from lane n [] = []
pins_from lane n (publish row ∷ moments) = pins_from lane (n + 1) moments
pins_from lane n (pin by ∷ moments) =
    cond (by == lane) (n ∷ pins_from lane n moments) (pins_from lane n moments)

-- the places of the lane's moments in the history, where n moments were before them all
abbrev pub places_from : ℕ → ℕ → List LogAction → List ℕ
places_from lane n [] = []
places_from lane n (moment ∷ moments) =
    cond (lane_at moment == lane)
    (n ∷ places_from lane (n + 1) moments)
    (places_from lane (n + 1) moments)
