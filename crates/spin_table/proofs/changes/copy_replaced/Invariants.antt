use Rattle.std.proofs.Common.{◌≡◌, take, map}
use Rattle.spin_table.specs.Steps.{replaced_at}
use Rattle.spin_table.proofs.changes.copy_replaced.Given as goal

-- the bindings so far are copied, the target with what replaces it
abbrev pub invariant-loop-binding : goal.invariant-loop-binding
invariant-loop-binding l = l.copy ≡ map (replaced_at l.rules l.verdict l.c) (take l.binding-index l.bindings)
