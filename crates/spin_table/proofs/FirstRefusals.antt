-- The first refusal of two lists, one after the other.
use Rattle.std.proofs.Common.{◌≡◌, ℕ, ◌<◌, Bool, true, false, List, [], ◌∷◌, ◌++◌, refl, arith}
use Rattle.std.specs.Prelude.{None, Some, nat_le}
use Rattle.spin_values.specs.First.{first_of}

first_before : {R : Type 0} (xs ys : List (Bool × R)) (r : R) → first_of xs ≡ Some r → first_of (xs ++ ys) ≡ Some r
first_before [] ys r first = cc
first_before ((true, refusal) ∷ xs) ys r first = first
first_before ((false, refusal) ∷ xs) ys r first = first_before xs ys r first

first_behind : {R : Type 0} (xs ys : List (Bool × R)) → first_of xs ≡ None → first_of (xs ++ ys) ≡ first_of ys
first_behind [] ys none = refl
first_behind ((true, refusal) ∷ xs) ys none = cc
first_behind ((false, refusal) ∷ xs) ys none = first_behind xs ys none

-- behind a condition that doesn't hold, the first of the two lists refuses
pub before_owner : {R : Type 0} (b : Bool) (first : R) (xs ys : List (Bool × R)) (r : R) → b ≡ false → first_of xs ≡ Some r
    → first_of ((b, first) ∷ xs ++ ys) ≡ Some r
before_owner true first xs ys r fails is = cc
before_owner false first xs ys r fails is = first_before xs ys r is

-- behind a condition that doesn't hold, the second of the two lists refuses, where the first doesn't
pub behind_units : {R : Type 0} (b : Bool) (first : R) (xs ys : List (Bool × R)) → b ≡ false → first_of xs ≡ None
    → first_of ((b, first) ∷ xs ++ ys) ≡ first_of ys
behind_units true first xs ys fails none = cc
behind_units false first xs ys fails none = first_behind xs ys none

pub not_le : (a b : ℕ) → b < a → nat_le a b ≡ false
not_le a b less = grind (arith, less)
