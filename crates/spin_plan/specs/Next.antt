-- The next binding whose guards hold.
use Rattle.std.specs.Prelude.{ℕ, ◌≡◌, ◌≤◌, ◌<◌, ◌==◌, ◌||◌, Bool, true, false, List, ◌∷◌}
use Rattle.std.specs.Prelude.{length, slice_get, Option, Some, None, IfSome, IsSomeAnd}
use Rattle.std.specs.List.{list_all}
use Rattle.spin_values.specs.declared.values.Value.{Value}
use Rattle.spin_code.specs.declared.test.Test.{Test}
use Rattle.spin_code.specs.Truth.{admits_at}
use Rattle.spin_place.specs.declared.binding.Binding.{Binding}

-- a guard, numbered from 1, is there and holds: 0 is no guard and always holds
abbrev pub guard_holds : List Test → List Value → ℕ → Bool
guard_holds tests args guard = (guard == 0) || admits_at tests guard args

-- its own guard and all its imposed guards hold
abbrev pub guards_hold : List Test → List Value → Binding → Bool
guards_hold tests args b = list_all (guard_holds tests args) (b.own_guard ∷ b.imposed)

-- no position from one up to another passes
abbrev pub NonePass : {X : Type 0} → (X → Bool) → List X → ℕ → ℕ → Type 0
NonePass passes xs from to = (k : ℕ) → from ≤ k → k < to → IfSome (slice_get xs k) (λ x. passes x ≡ false)

-- the least position at or after one that passes, if there is one
abbrev pub IsNext : {X : Type 0} → (X → Bool) → List X → ℕ → Option ℕ → Type 0
IsNext passes xs from None = NonePass passes xs from (length xs)
IsNext passes xs from (Some at) =
    (from ≤ at) × IsSomeAnd (slice_get xs at) (λ x. passes x ≡ true) × NonePass passes xs from at

-- of so many guards this is one, or it is none
abbrev pub IsGuard : ℕ → ℕ → Type 0
IsGuard count guard = guard ≤ count
