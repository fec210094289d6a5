-- A plan as contracts see it: its bindings in order, and the index over them.
use Rattle.std.specs.Prelude.{ℕ, ◌≡◌, ◌==◌, ◌+◌, Bool, false, not, List, [], ◌∷◌}
use Rattle.std.specs.Prelude.{if◌then◌else◌, Option, Some, None, is_some, unwrap_or, min}
use Rattle.std.specs.Option.{option_map_or}
use Rattle.std.specs.Map.{lookup}
use Rattle.std.specs.Ordering.{nat_cmp}
use Rattle.std.specs.BTreeMap.{is_at}
use Rattle.spin_values.specs.declared.values.Value.{Value}
use Rattle.spin_code.specs.declared.expr.Expr.{Expr}
use Rattle.spin_code.specs.declared.expr.Expr.TheVariants.{Arg, Field}
use Rattle.spin_code.specs.Value.{value_of}
use Rattle.spin_code.specs.declared.test.Test.{Test}
use Rattle.spin_place.specs.declared.binding.Binding.{Binding}
use Rattle.spin_plan.specs.declared.read.Read.{Read}
use Rattle.spin_plan.specs.declared.read.Read.TheVariants as read
use Rattle.spin_plan.specs.Keys.{IsKey, wanted}

-- what is read, as an expression
abbrev pub expr_of : Read → Expr
expr_of (read.Arg a) = Arg a
expr_of (read.Field a offset width) = Field a offset width

-- the bindings in order, the key, the positions by the constant that they require for it, and those of the rest
pub record Planned : Type 0 where
  pub bindings : List Binding
  pub key : Option Expr
  pub keyed : List (ℕ × List ℕ)
  pub free : List ℕ

-- the positions that pass, counted from a number on
abbrev pub positions_from : {X : Type 0} → (X → Bool) → ℕ → List X → List ℕ
positions_from passes n [] = []
positions_from passes n (x ∷ xs) =
    if passes x then n ∷ positions_from passes (n + 1) xs else positions_from passes (n + 1) xs

-- the positions under a constant
abbrev pub positions_at : List (ℕ × List ℕ) → ℕ → List ℕ
positions_at keyed c = unwrap_or (lookup (is_at (nat_cmp c)) keyed) []

-- a binding requires this constant, or none
abbrev pub wants : ℕ → Option ℕ → Bool
wants c o = option_map_or (λ n. c == n) o false

-- it was compiled over guards with these tests
pub record IsOver (tests : List Test) (p : Planned) : Type 0 where
  pub key : IsKey tests p.bindings p.key
  pub keyed : (c : ℕ)
      → positions_at p.keyed c ≡ positions_from (λ b. wants c (wanted tests p.key b)) 0 p.bindings
  pub free : p.free ≡ positions_from (λ b. not (is_some (wanted tests p.key b))) 0 p.bindings

-- the value of the key, where there is one
abbrev pub key_value : Option Expr → List Value → Option ℕ
key_value None args = None
key_value (Some e) args = Some (value_of e args)

-- the positions under a value, none where there is none
abbrev pub positions_under : List (ℕ × List ℕ) → Option ℕ → List ℕ
positions_under keyed None = []
positions_under keyed (Some c) = positions_at keyed c

-- the lesser one, or the one that is there
abbrev pub least : Option ℕ → Option ℕ → Option ℕ
least None b = b
least (Some x) None = Some x
least (Some x) (Some y) = Some (min x y)
