-- What a test requires of an argument, or of a field of one: that it is a constant.
use Rattle.std.specs.Prelude.{ℕ, ◌≡◌, Bool, false, ◌&&◌, ◌==◌, if◌then◌else◌, List, Option, Some, None, IsTrue}
use Rattle.std.specs.Option.{option_or}
use Rattle.spin_values.specs.declared.values.Value.{Value}
use Rattle.spin_code.specs.declared.expr.Expr.{Expr}
use Rattle.spin_code.specs.declared.expr.Expr.TheVariants.{Const, Arg, Field}
use Rattle.spin_code.specs.declared.test.Cmp.TheVariants.{Eq}
use Rattle.spin_code.specs.declared.test.Test.{Test}
use Rattle.spin_code.specs.declared.test.Test.TheVariants.{Compare, All'}
use Rattle.spin_code.specs.Value.{value_of}
use Rattle.spin_code.specs.Truth.{truth_of}

-- both are the same argument, or the same field of one
abbrev pub is_same_read : Expr → Expr → Bool
is_same_read (Arg a) (Arg b) = a == b
is_same_read (Field a offset width) (Field b from size) =
    (a == b) && (offset == from) && (width == size)
is_same_read d e = false

-- the constant that an equation requires for e: its right side, where its left side is e
abbrev pub constant_beside : Expr → Expr → Expr → Option ℕ
constant_beside d (Const c) e = if is_same_read d e then Some c else None
constant_beside d b e = None

-- the constant that a test requires for e: of two the left one counts
abbrev pub required_by : Test → Expr → Option ℕ
required_by (Compare Eq a b) e = option_or (constant_beside a b e) (constant_beside b a e)
required_by (All' p a q b) e = option_or (required_by a e) (required_by b e)
required_by t e = None

-- where a test requires a constant for e and holds, that is the value of e
abbrev pub IsMetWhereItHolds : Type 0
IsMetWhereItHolds =
    (t : Test) (e : Expr) (args : List Value) (c : ℕ)
    → required_by t e ≡ Some c → IsTrue (truth_of t args) → value_of e args ≡ c
