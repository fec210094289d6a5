-- A list whose last item is taken.
use Rattle.std.proofs.Common.{suc, List, [], ◌∷◌, ◌++◌, All, arith}
use Rattle.std.proofs.lemmas.List.Elements.{All-nil, All-cons}

module _ {X : Type 0} (P : X → Type 0) where
  pub all_front : (xs : List X) (y : X) → All P (xs ++ y ∷ []) → All P xs
  all_front [] y h = All-nil P
  all_front (x ∷ xs) y h = All-cons P x xs (h 0 x (omega arith)) (all_front xs y (λ k d lt. h (suc k) d (omega arith)))

  pub all_end : (xs : List X) (y : X) → All P (xs ++ y ∷ []) → P y
  all_end [] y h = h 0 y (omega arith)
  all_end (x ∷ xs) y h = all_end xs y (λ k d lt. h (suc k) d (omega arith))
