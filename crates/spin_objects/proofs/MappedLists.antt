-- Reading a list that was mapped, and finding in it.
use Rattle.std.proofs.Common.{◌≡◌, ℕ, ◌+◌, ◌-◌, ◌<◌, ◌≤◌, Bool, not, cond, List, [], ◌∷◌, map, length, refl, sym, ap, subst, ◌∙◌, arith}
use Rattle.std.specs.Prelude.{Some, None, All, slice_get, nat_lt, position}
use Rattle.std.specs.List.{position_or_len}
use Rattle.std.proofs.lemmas.List.{length-map}
use Rattle.std.proofs.lemmas.List.Elements.{All-get_or}
use Rattle.std.proofs.lemmas.Option.{slice_get-map, slice_get_within, get_or_from_slice_get}

pub read_mapped : {A B C : Type 0} (f : A → B) (g : B → C) (xs : List A) (k : ℕ) (x : A)
    → slice_get xs k ≡ Some x → slice_get (map g (map f xs)) k ≡ Some (g (f x))
read_mapped f g xs k x there = rw (slice_get-map g (map f xs) k, slice_get-map f xs k, there) refl

-- what holds of each element holds of one that is there
pub read_all : {A : Type 0} (P : A → Type 0) (xs : List A) (k : ℕ) (x : A) → All P xs → slice_get xs k ≡ Some x → P x
read_all P xs k x all there = subst P (get_or_from_slice_get xs k x x there) (All-get_or P xs k x (slice_get_within xs k x there) all)

-- the place of what has a number, the first having number 1
pub place_there : {A B : Type 0} (f : A → B) (xs : List A) (number : ℕ) → 0 < number → number ≤ length (map f xs) → number - 1 < length xs
place_there f xs number first last = omega (arith, first, last, length-map xs f)

-- a place of a list that was mapped, and of one that was mapped twice, is one of the list
pub place_mapped : {A B : Type 0} (f : A → B) (xs : List A) (k : ℕ) → k < length (map f xs) → k < length xs
place_mapped f xs k there = omega (arith, there, length-map xs f)

pub place_mapped_twice : {A B C : Type 0} (f : A → B) (g : B → C) (xs : List A) (k : ℕ) → k < length (map g (map f xs)) → k < length xs
place_mapped_twice f g xs k there = place_mapped f xs k (place_mapped g (map f xs) k there)

position_or_len_mapped : {A B : Type 0} (p : B → Bool) (f : A → B) (xs : List A) → position_or_len p (map f xs) ≡ position_or_len (λ x. p (f x)) xs
position_or_len_mapped p f [] = refl
position_or_len_mapped p f (x ∷ xs) = ap (λ n. cond (not (p (f x))) (1 + n) 0) (position_or_len_mapped p f xs)

position_mapped : {A B : Type 0} (p : B → Bool) (f : A → B) (xs : List A) → position p (map f xs) ≡ position (λ x. p (f x)) xs
position_mapped p f xs =
    ap (λ n. cond (nat_lt n (length (map f xs))) (Some n) None) (position_or_len_mapped p f xs)
    ∙ ap (λ n. cond (nat_lt (position_or_len (λ x. p (f x)) xs) n) (Some (position_or_len (λ x. p (f x)) xs)) None) (length-map xs f)

-- the first place of a list that was mapped twice
position_mapped_twice : {A B C : Type 0} (p : C → Bool) (f : A → B) (g : B → C) (xs : List A)
    → position p (map g (map f xs)) ≡ position (λ x. p (g (f x))) xs
position_mapped_twice p f g xs = position_mapped p g (map f xs) ∙ position_mapped (λ y. p (g y)) f xs

-- the first place of a list that was mapped twice, found in an equal list
pub found_mapped : {A B C : Type 0} (p : C → Bool) (f : A → B) (g : B → C) (xs ys : List A) → ys ≡ xs
    → position (λ x. p (g (f x))) ys ≡ position p (map g (map f xs))
found_mapped p f g xs ys same = ap (position (λ x. p (g (f x)))) same ∙ sym (position_mapped_twice p f g xs)
