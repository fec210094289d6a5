use Rattle.std.proofs.Common.{◌≡◌, [], length}
use Rattle.std.specs.List.{All}
use Rattle.spin_driver.proofs.raises.bindings_of.Given as goal

-- the bindings so far are of handler 1, without a guard
abbrev pub invariant-loop-before : goal.invariant-loop-before
invariant-loop-before l = All (λ b. (b.handler ≡ 1) × (b.own_guard ≡ 0) × (b.imposed ≡ [])) l.bindings × (length l.bindings ≡ l.before)
