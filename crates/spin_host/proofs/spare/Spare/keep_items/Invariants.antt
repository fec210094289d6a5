use Rattle.std.proofs.Common.{length}
use Rattle.spin_host.proofs.spare.Spare.keep_items.Given as goal

abbrev pub decreases-loop-item : goal.decreases-loop-item
decreases-loop-item l = length l.items
