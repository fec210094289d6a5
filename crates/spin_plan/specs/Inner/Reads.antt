-- What guards compare with a constant, as the code collects it.
use Rattle.std.specs.Prelude.{ℕ, ◌-◌, ◌==◌, ◌&&◌, Bool, true, false, List, [], ◌∷◌}
use Rattle.std.specs.Prelude.{◌++◌, if◌then◌else◌, slice_get, fold, Option, Some, None}
use Rattle.std.specs.List.{list_any, flat_map, count_by}
use Rattle.spin_code.specs.declared.expr.Expr.{Expr}
use Rattle.spin_code.specs.declared.expr.Expr.TheVariants.{Const, Arg, Field}
use Rattle.spin_code.specs.declared.test.Cmp.TheVariants.{Eq}
use Rattle.spin_code.specs.declared.test.Test.{Test}
use Rattle.spin_code.specs.declared.test.Test.TheVariants.{Compare, All'}
use Rattle.spin_code.specs.Required.{is_same_read}
use Rattle.spin_place.specs.declared.binding.Binding.{Binding}

-- an argument, or a field of one
abbrev pub is_read : Expr → Bool
is_read (Arg a) = true
is_read (Field a offset width) = true
is_read e = false

abbrev pub is_constant : Expr → Bool
is_constant (Const c) = true
is_constant e = false

-- the expression, where it is an argument or a field and stands beside a constant
abbrev pub reads_beside : Expr → Expr → List Expr
reads_beside d e = if is_constant e && is_read d then d ∷ [] else []

-- what a test requires to be constants
abbrev pub reads_of : Test → List Expr
reads_of (Compare Eq a b) = reads_beside a b ++ reads_beside b a
reads_of (All' p a q b) = reads_of a ++ reads_of b
reads_of t = []

abbrev pub reads_if : Option Test → List Expr
reads_if None = []
reads_if (Some t) = reads_of t

abbrev pub guard_reads : List Test → ℕ → List Expr
guard_reads tests guard = if guard == 0 then [] else reads_if (slice_get tests (guard - 1))

-- the list has the same
abbrev pub has_read : List Expr → Expr → Bool
has_read es e = list_any (λ d. is_same_read d e) es

-- the list with one more, unless it has that
abbrev pub with_read : List Expr → Expr → List Expr
with_read es e = if has_read es e then es else es ++ e ∷ []

-- what a binding's guards require to be constants, each once
abbrev pub binding_reads : List Test → Binding → List Expr
binding_reads tests b = fold with_read [] (flat_map (guard_reads tests) (b.own_guard ∷ b.imposed))

-- how often it stands there
abbrev pub times_in : List Expr → Expr → ℕ
times_in es e = count_by (λ d. is_same_read d e) es
