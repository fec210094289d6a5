use Rattle.std.proofs.Common.{length}
use Rattle.spin_host.proofs.spare.Lists.keep_gift.Given as goal

abbrev pub decreases-loop-given : goal.decreases-loop-given
decreases-loop-given l = length l.gift
