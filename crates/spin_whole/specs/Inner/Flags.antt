-- Flags of endpoints, by number.
use Rattle.std.specs.Prelude.{ℕ, Bool, false, List, slice_index_or}

-- the flag of that number is there and set
abbrev pub is_set : List Bool → ℕ → Bool
is_set flags number = slice_index_or flags number false
