use Rattle.std.proofs.Common.{◌≡◌, ◌<◌, ◌^◌, length, take}
use Rattle.spin_c.specs.Waiting.{missing}
use Rattle.spin_c.proofs.gathering.count_missing.Given as goal

abbrev pub invariant-loop-slot : goal.invariant-loop-slot
invariant-loop-slot l = (l.count ≡ missing (take l.slot-index l.waiting)) × (length l.waiting < 2 ^ 64)
