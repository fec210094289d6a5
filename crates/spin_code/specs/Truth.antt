-- Whether a test holds.
use Rattle.std.specs.Prelude.{ℕ, Bool, true, false, not, ◌&&◌, ◌||◌, List, ◌==◌, nat_lt}
use Rattle.std.specs.Prelude.{nat_le, length, ◌-◌, Option, Some, None, slice_get}
use Rattle.spin_values.specs.declared.values.Value.{Value}
use Rattle.spin_code.specs.declared.test.Cmp.{Cmp}
use Rattle.spin_code.specs.declared.test.Cmp.TheVariants.{Eq, Ne, Lt, Le}
use Rattle.spin_code.specs.declared.test.Test.{Test}
use Rattle.spin_code.specs.declared.test.Test.TheVariants.{True, Compare, HasBytes, Not', All', Any'}
use Rattle.spin_code.specs.Value.{value_of, bytes_at}

-- a comparison of two unsigned numbers
abbrev pub compares : Cmp → ℕ → ℕ → Bool
compares Eq a b = a == b
compares Ne a b = not (a == b)
compares Lt a b = nat_lt a b
compares Le a b = nat_le a b

-- whether a test holds of these arguments
abbrev pub truth_of : Test → List Value → Bool
truth_of True args = true
truth_of (Compare c a b) args = compares c (value_of a args) (value_of b args)
truth_of (HasBytes a n) args = nat_le n (length (bytes_at args a))
truth_of (Not' p t) args = not (truth_of t args)
truth_of (All' p a q b) args = truth_of a args && truth_of b args
truth_of (Any' p a q b) args = truth_of a args || truth_of b args

-- whether the test is there and holds
abbrev pub holds_if : Option Test → List Value → Bool
holds_if None args = false
holds_if (Some t) args = truth_of t args

-- whether the guard of this number, the first having number 1, is there and its test holds
abbrev pub admits_at : List Test → ℕ → List Value → Bool
admits_at tests guard args = holds_if (slice_get tests (guard - 1)) args
