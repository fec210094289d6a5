-- What the guards of bindings require of arguments, and the key of a plan: what most of its bindings require.
use Rattle.std.specs.Prelude.{ℕ, ◌≡◌, ◌<◌, ◌≤◌, ◌-◌, ◌+◌, ◌==◌, ◌&&◌, ◌||◌}
use Rattle.std.specs.Prelude.{Bool, true, false, not, nat_lt, if◌then◌else◌}
use Rattle.std.specs.Prelude.{List, [], ◌∷◌, length, take, drop, filter, slice_get, Option, Some, None, is_some}
use Rattle.std.specs.Option.{option_or, option_and_then, option_map_or}
use Rattle.std.specs.List.{count_by}
use Rattle.spin_values.specs.declared.values.Value.{Value}
use Rattle.spin_code.specs.declared.expr.Expr.{Expr}
use Rattle.spin_code.specs.declared.expr.Expr.TheVariants.{Arg, Field}
use Rattle.spin_code.specs.declared.test.Test.{Test}
use Rattle.spin_code.specs.Value.{value_of}
use Rattle.spin_code.specs.Required.{required_by}
use Rattle.spin_place.specs.declared.binding.Binding.{Binding}

-- the constant that the guard of this number requires for e: none where it is no guard
abbrev pub guard_requires : List Test → Expr → ℕ → Option ℕ
guard_requires tests e guard =
    if guard == 0 then None
    else option_and_then (λ t. required_by t e) (slice_get tests (guard - 1))

-- of several guards the first that requires a constant for e counts
abbrev pub first_required : List Test → Expr → List ℕ → Option ℕ
first_required tests e [] = None
first_required tests e (guard ∷ guards) =
    option_or (guard_requires tests e guard) (first_required tests e guards)

-- a binding requires what its own guard requires, then what its imposed guards require
abbrev pub binding_requires : List Test → Expr → Binding → Option ℕ
binding_requires tests e b = first_required tests e (b.own_guard ∷ b.imposed)

-- how many bindings require a constant for e
abbrev pub requiring : List Test → List Binding → Expr → ℕ
requiring tests bs e = count_by (λ b. is_some (binding_requires tests e b)) bs

-- the argument, the offset and the width of a field; an argument as a word counts as offset 0 and width 0
abbrev pub argument_of : Expr → ℕ
argument_of (Arg a) = a
argument_of (Field a offset width) = a
argument_of e = 0

abbrev pub offset_of : Expr → ℕ
offset_of (Field a offset width) = offset
offset_of e = 0

abbrev pub width_of : Expr → ℕ
width_of (Field a offset width) = width
width_of e = 0

-- an argument as a word comes before a field that has its numbers too
abbrev pub key_kind : Expr → ℕ
key_kind (Field a offset width) = 1
key_kind e = 0

-- the first numbers decide, or else the rest
abbrev pub is_below : ℕ → ℕ → Bool → Bool
is_below a b rest = nat_lt a b || ((a == b) && rest)

-- d comes before e, by argument, offset and width
abbrev pub comes_before : Expr → Expr → Bool
comes_before d e =
    is_below (argument_of d) (argument_of e)
    (is_below (offset_of d) (offset_of e)
    (is_below (width_of d) (width_of e) (nat_lt (key_kind d) (key_kind e))))

-- e has the greatest count, and none that has it too comes before e
pub record Leads (count : Expr → ℕ) (e : Expr) : Type 0 where
  pub some : 0 < count e
  pub most : (d : Expr) → count d ≤ count e
  pub first : (d : Expr) → count d ≡ count e → comes_before d e ≡ false

-- the leader, none where each count is 0
abbrev pub IsLeader : (Expr → ℕ) → Option Expr → Type 0
IsLeader count None = (d : Expr) → count d ≡ 0
IsLeader count (Some e) = Leads count e

-- the key: what most of the bindings require
abbrev pub IsKey : List Test → List Binding → Option Expr → Type 0
IsKey tests bs key = IsLeader (requiring tests bs) key

-- what a binding requires for the key, where there is one
abbrev pub wanted : List Test → Option Expr → Binding → Option ℕ
wanted tests key b = option_and_then (λ e. binding_requires tests e b) key

-- a binding may fire: it requires no constant for the key, or requires the key's value
abbrev pub may_fire : List Test → Option Expr → List Value → Binding → Bool
may_fire tests None args b = true
may_fire tests (Some e) args b =
    option_map_or (λ c. value_of e args == c) (binding_requires tests e b) true

-- how many of these guards there are: 0 is no guard
abbrev pub guards_among : List ℕ → ℕ
guards_among guards = count_by (λ guard. not (guard == 0)) guards

-- how many guards a binding has
abbrev pub guards_in : Binding → ℕ
guards_in b = guards_among (b.own_guard ∷ b.imposed)

-- where a walk with this answer ends: behind the answer, or behind them all
abbrev pub walk_end : Option ℕ → ℕ → ℕ
walk_end None all = all
walk_end (Some at) all = at + 1

-- the candidates of a walk from one position with this answer: those that may fire
abbrev pub candidates : List Test → Option Expr → List Value → List Binding → ℕ → Option ℕ → List Binding
candidates tests key args bs from answer =
    filter (may_fire tests key args) (drop from (take (walk_end answer (length bs)) bs))
