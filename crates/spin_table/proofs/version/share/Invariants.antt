use Rattle.std.proofs.Common.{◌≡◌, take}
use Rattle.spin_table.proofs.version.share.Given as goal

-- the slots so far are shared
abbrev pub invariant-loop-slot : goal.invariant-loop-slot
invariant-loop-slot l = l.shared ≡ take l.slot-index l.slots
