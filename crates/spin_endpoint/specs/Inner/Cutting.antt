-- Pieces that lie one behind the other in one list of bytes.
use Rattle.std.specs.Prelude.{ℕ, List, ◌+◌, ◌∷◌, [], take, drop}

-- how many bytes pieces of these lengths have in all
abbrev pub total : List ℕ → ℕ
total [] = 0
total (len ∷ lens) = len + total lens

-- bytes cut into pieces of these lengths
abbrev pub cut : List ℕ → List ℕ → List (List ℕ)
cut [] bytes = []
cut (len ∷ lens) bytes = take len bytes ∷ cut lens (drop len bytes)
