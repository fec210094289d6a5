-- A table before the first step.
use Rattle.std.specs.Prelude.{◌≡◌, ℕ, suc, List, length, slice_index}

-- the words of a log with no entry
pub record IsBlank (lanes count : ℕ) (words : List ℕ) : Type 0 where
  pub size : length words ≡ count
  pub head : slice_index words 0 ≡ lanes
  pub zeros : (k : ℕ) → slice_index words (suc k) ≡ 0
