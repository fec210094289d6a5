-- What holds of each element of a list, by its place.
use Rattle.std.proofs.Common.{◌≡◌, ◌<◌, ◌+◌, ◌⊎◌, inl, inr, ℕ, zero, suc, Bool, false, List, [], ◌∷◌, ◌++◌, length, get_or, Some, None, refl, sym, ap, subst, ◌∙◌, arith}
use Rattle.std.specs.Prelude.{slice_get, slice_set}
use Rattle.std.specs.List.{list_all, position, enumerate_from}
use Rattle.std.specs.Option.{option_map_or}
use Rattle.std.proofs.lemmas.Option.{slice_get-get_or}
use Rattle.std.proofs.lemmas.List.FromFn.{length-enumerate_from, get_or-enumerate_from}
use Rattle.spin_table.proofs.FirstPlaces.{position-none}
use Rattle.spin_script.specs.Inner.Sound.{Each}

some_is : {X : Type 0} (x y : X) → Some x ≡ Some y → x ≡ y
some_is x y e = cc

none_is : {X : Type 0} (x : X) → None ≡ Some x → ⊥
none_is x e = cc

pub each_none : {X : Type 0} (P : ℕ → X → Type 0) (xs : List X) → xs ≡ [] → Each P xs
each_none P xs e at x read = absurd (none_is x (ap (λ ys. slice_get ys at) (sym e) ∙ read))

-- what stands in a list with one element more
pushed : {X : Type 0} (xs : List X) (y : X) (at : ℕ) (x : X) → slice_get (xs ++ y ∷ []) at ≡ Some x → (slice_get xs at ≡ Some x) ⊎ ((length xs ≡ at) × (y ≡ x))
pushed [] y zero x read = inr (refl, some_is y x read)
pushed [] y (suc at) x read = absurd (none_is x read)
pushed (z ∷ zs) y zero x read = inl read
pushed (z ∷ zs) y (suc at) x read = elim (pushed zs y at x read) [ inl there ↦ inl there | inr new ↦ inr (ap suc new.0, new.1) ]

pub each_push : {X : Type 0} (P : ℕ → X → Type 0) (xs : List X) (y : X) → Each P xs → P (length xs) y → Each P (xs ++ y ∷ [])
each_push P xs y each last at x read =
    elim (pushed xs y at x read) [
      | inl there ↦ each at x there
      | inr new ↦ subst (λ k. P k x) new.0 (subst (λ z. P (length xs) z) new.1 last)
    ]

-- what stands in a list with one element changed
changed : {X : Type 0} (xs : List X) (i : ℕ) (y : X) (at : ℕ) (x : X) → slice_get (slice_set xs i y) at ≡ Some x → (slice_get xs at ≡ Some x) ⊎ ((i ≡ at) × (y ≡ x))
changed [] i y at x read = absurd (none_is x read)
changed (z ∷ zs) zero y zero x read = inr (refl, some_is y x read)
changed (z ∷ zs) zero y (suc at) x read = inl read
changed (z ∷ zs) (suc i) y zero x read = inl read
changed (z ∷ zs) (suc i) y (suc at) x read = elim (changed zs i y at x read) [ inl there ↦ inl there | inr new ↦ inr (ap suc new.0, new.1) ]

pub each_set : {X : Type 0} (P : ℕ → X → Type 0) (xs : List X) (i : ℕ) (y : X) → Each P xs → P i y → Each P (slice_set xs i y)
each_set P xs i y each here at x read =
    elim (changed xs i y at x read) [
      | inl there ↦ each at x there
      | inr new ↦ subst (λ k. P k x) new.0 (subst (λ z. P i z) new.1 here)
    ]

-- what is read of a list is the same after a change of what isn't read of it
pub read_same : {X Y : Type 0} (f : X → Y) (d : Y) (xs : List X) (k : ℕ) (x y : X) → slice_get xs k ≡ Some x → f y ≡ f x
    → (at : ℕ) → option_map_or f (slice_get (slice_set xs k y) at) d ≡ option_map_or f (slice_get xs at) d
read_same f d [] k x y read same at = refl
read_same f d (z ∷ zs) zero x y read same zero = same ∙ ap f (sym (some_is z x read))
read_same f d (z ∷ zs) zero x y read same (suc at) = refl
read_same f d (z ∷ zs) (suc k) x y read same zero = refl
read_same f d (z ∷ zs) (suc k) x y read same (suc at) = read_same f d zs k x y read same at

pub all_same : {X : Type 0} (p q : X → Bool) → ((x : X) → p x ≡ q x) → (xs : List X) → list_all p xs ≡ list_all q xs
all_same p q same [] = refl
all_same p q same (x ∷ xs) = let here = same x in let behind = all_same p q same xs in cc

pub each_position : {X : Type 0} (p : X → Bool) (xs : List X) → Each (λ at x. p x ≡ false) xs → position p xs ≡ None
each_position p xs each = position-none p xs (λ k d l m. each k (get_or xs k d) (slice_get-get_or xs k d m))

pub each_numbered : {X : Type 0} (p : ℕ × X → Bool) (xs : List X) → Each (λ at x. p (at, x) ≡ false) xs → position p (enumerate_from 0 xs) ≡ None
each_numbered {X} p xs each =
    position-none p (enumerate_from 0 xs) (λ k d l m.
    let inside : k < length xs = omega (arith, length-enumerate_from 0 xs) in
    let same : 0 + k ≡ k = omega arith in
    let here : get_or (enumerate_from 0 xs) k d ≡ (k, get_or xs k d.1) = get_or-enumerate_from 0 xs k d inside ∙ ap (λ n. (n, get_or xs k d.1)) same in
    ap p here ∙ each k (get_or xs k d.1) (slice_get-get_or xs k d.1 inside))
