-- A test of all elements, one after the other.
use Rattle.std.proofs.Common.{◌≡◌, ℕ, ◌+◌, ◌<◌, ◌≤◌, Bool, true, false, ◌&&◌, List, length, take, get_or, refl, sym, ap, ◌∙◌}
use Rattle.std.specs.List.{list_all}
use Rattle.std.proofs.lemmas.List.{take_all}
use Rattle.std.proofs.lemmas.List.Folds.{list_all_at, list_all_more}

both : (a b : Bool) → a ≡ true → b ≡ true → (a && b) ≡ true
both true true p q = refl
both false b p q = cc
both true false p q = cc

pub passes_more : {X : Type 0} (p : X → Bool) (xs : List X) (i : ℕ) (x : X) → i < length xs → x ≡ get_or xs i x → p x ≡ true
    → list_all p (take i xs) ≡ true → list_all p (take (i + 1) xs) ≡ true
passes_more p xs i x inside is passes so_far =
    list_all_more p xs i x inside ∙ both (list_all p (take i xs)) (p (get_or xs i x)) so_far (ap p (sym is) ∙ passes)

pub passes_next : {X : Type 0} (p : X → Bool) (xs : List X) (i : ℕ) (d : X) → i < length xs → p (get_or xs i d) ≡ true
    → list_all p (take i xs) ≡ true → list_all p (take (i + 1) xs) ≡ true
passes_next p xs i d inside passes so_far = list_all_more p xs i d inside ∙ both (list_all p (take i xs)) (p (get_or xs i d)) so_far passes

pub passes_all : {X : Type 0} (p : X → Bool) (xs : List X) (i : ℕ) → length xs ≤ i → list_all p (take i xs) ≡ true → list_all p xs ≡ true
passes_all p xs i past so_far = ap (list_all p) (sym (take_all i xs past)) ∙ so_far

pub fails_at : {X : Type 0} (p : X → Bool) (xs : List X) (i : ℕ) (x : X) → i < length xs → x ≡ get_or xs i x → p x ≡ false → list_all p xs ≡ false
fails_at p xs i x inside is fails = list_all_at p xs i x inside (ap p (sym is) ∙ fails)
