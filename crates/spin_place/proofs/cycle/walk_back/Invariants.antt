use Rattle.std.proofs.Common.{◌-◌, length}
use Rattle.spin_place.proofs.PrecedenceWalks.{IsWalk}
use Rattle.spin_place.proofs.cycle.walk_back.Given as goal

abbrev pub invariant-loop-path : goal.invariant-loop-path
invariant-loop-path l = IsWalk l.rest l.at l.path.items

abbrev pub decreases-loop-path : goal.decreases-loop-path
decreases-loop-path l = length l.rest - length l.path.items
