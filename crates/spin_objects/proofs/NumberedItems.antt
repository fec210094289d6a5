-- Items by their numbers, and by their places.
use Rattle.std.proofs.Common.{◌≡◌, ℕ, ◌-◌, ◌==◌, Bool, true, false, if◌then◌else◌, List, map, Some, refl, arith}
use Rattle.std.specs.Prelude.{None, IsSomeAnd, slice_get}
use Rattle.std.specs.Option.{option_map}
use Rattle.std.proofs.lemmas.Option.{slice_get-map}
use Rattle.spin_values.specs.First.{numbered}

-- a number from 1 on reads the place before it
pub numbered-at : {X : Type 0} (xs : List X) (number : ℕ) → (number ≡ 0 → ⊥) → numbered xs number ≡ slice_get xs (number - 1)
numbered-at xs number h = let other : (number == 0) ≡ false = grind arith in rw other

-- what has a number stands at the place before it
pub numbered-reads : {X : Type 0} (xs : List X) (number : ℕ) (x : X) → numbered xs number ≡ Some x → slice_get xs (number - 1) ≡ Some x
numbered-reads {X} xs number x = go (number == 0)
  where
    go : (none : Bool) → (if none then None else slice_get xs (number - 1)) ≡ Some x → slice_get xs (number - 1) ≡ Some x
    go true e = cc
    go false e = e

pub numbered_and-reads : {X : Type 0} (P : X → Type 0) (xs : List X) (number : ℕ) → IsSomeAnd (numbered xs number) P → IsSomeAnd (slice_get xs (number - 1)) P
numbered_and-reads {X} P xs number = go (number == 0)
  where
    go : (none : Bool) → IsSomeAnd (if none then None else slice_get xs (number - 1)) P → IsSomeAnd (slice_get xs (number - 1)) P
    go true h = absurd h
    go false h = h

-- a number reads of a list that was mapped what it reads of the list, mapped
pub numbered-map : {A B : Type 0} (f : A → B) (xs : List A) (number : ℕ) → numbered (map f xs) number ≡ option_map f (numbered xs number)
numbered-map {A} {B} f xs number = go (number == 0)
  where
    go : (none : Bool) → (if none then None else slice_get (map f xs) (number - 1)) ≡ option_map f (if none then None else slice_get xs (number - 1))
    go true = refl
    go false = slice_get-map f xs (number - 1)

pub numbered_mapped : {A B C : Type 0} (f : A → B) (g : B → C) (xs : List A) (number : ℕ) (x : A)
    → numbered xs number ≡ Some x → numbered (map g (map f xs)) number ≡ Some (g (f x))
numbered_mapped f g xs number x there = rw (numbered-map g (map f xs) number, numbered-map f xs number, there) refl

-- what holds of what an item was mapped to
pub numbered_and : {A B : Type 0} (f : A → B) (P : B → Type 0) (xs : List A) (number : ℕ) (x : A)
    → numbered xs number ≡ Some x → P (f x) → IsSomeAnd (numbered (map f xs) number) P
numbered_and f P xs number x there this = rw (numbered-map f xs number, there) this
