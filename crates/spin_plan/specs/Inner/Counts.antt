-- How the code counts what bindings require.
use Rattle.std.specs.Prelude.{ℕ, ◌==◌, ◌&&◌, ◌||◌, Bool, nat_lt, nat_eq, unwrap_or, Option, Some, None}
use Rattle.std.specs.HashMap.{HashMap, get}
use Rattle.spin_code.specs.declared.expr.Expr.{Expr}
use Rattle.spin_plan.specs.Keys.{argument_of, offset_of, width_of, key_kind, comes_before}

-- argument, offset, width and kind
abbrev pub numbers_of : Expr → ℕ × ℕ × ℕ × ℕ
numbers_of e = (argument_of e, offset_of e, width_of e, key_kind e)

-- all four are the same
abbrev pub same_four : ℕ × ℕ × ℕ × ℕ → ℕ × ℕ × ℕ × ℕ → Bool
same_four x y = nat_eq x.0 y.0 && nat_eq x.1 y.1 && nat_eq x.2 y.2 && nat_eq x.3 y.3

-- how often it was counted
abbrev pub times_counted : {S : Type 0} → HashMap (ℕ × ℕ × ℕ × ℕ) ℕ S → Expr → ℕ
times_counted counts e = unwrap_or (get same_four counts (numbers_of e)) 0

-- one with this count leads before the leader so far
abbrev pub goes_ahead : Expr → ℕ → Option Expr → ℕ → Bool
goes_ahead e times None most = nat_lt most times
goes_ahead e times (Some leader) most =
    nat_lt most times || ((times == most) && comes_before e leader)
