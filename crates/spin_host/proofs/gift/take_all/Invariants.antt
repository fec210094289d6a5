use Rattle.std.proofs.Common.{length, reverse}
use Rattle.spin_host.proofs.GiftsTaken.{Taking}
use Rattle.spin_host.proofs.gift.take_all.Given as goal

abbrev pub invariant-loop-given : goal.invariant-loop-given
invariant-loop-given l = Taking l.fn.gift (reverse l.gift) l.initial.args l.args l.initial.out l.out

abbrev pub decreases-loop-given : goal.decreases-loop-given
decreases-loop-given l = length l.gift
