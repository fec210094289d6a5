use Rattle.std.proofs.Common.{◌≡◌, take}
use Rattle.spin_table.proofs.changes.copy_bindings.Given as goal

-- the bindings so far are copied
abbrev pub invariant-loop-binding : goal.invariant-loop-binding
invariant-loop-binding l = l.copy ≡ take l.binding-index l.bindings
