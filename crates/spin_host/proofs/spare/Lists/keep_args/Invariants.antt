use Rattle.std.proofs.Common.{length}
use Rattle.spin_host.proofs.spare.Lists.keep_args.Given as goal

abbrev pub decreases-loop-value : goal.decreases-loop-value
decreases-loop-value l = length l.args
