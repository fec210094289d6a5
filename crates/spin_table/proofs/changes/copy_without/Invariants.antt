use Rattle.std.proofs.Common.{◌≡◌, take}
use Rattle.std.specs.Prelude.{filter, not, ◌==◌}
use Rattle.spin_table.proofs.changes.copy_without.Given as goal

-- the bindings so far are copied, but for the target
abbrev pub invariant-loop-binding : goal.invariant-loop-binding
invariant-loop-binding l = l.copy ≡ filter (λ b. not (b.number == l.target)) (take l.binding-index l.bindings)
