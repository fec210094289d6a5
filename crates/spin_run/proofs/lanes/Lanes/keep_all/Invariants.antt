use Rattle.spin_run.proofs.KeptEntries.{Marked}
use Rattle.spin_run.proofs.lanes.Lanes.keep_all.Given as goal

abbrev pub invariant-loop-lane : goal.invariant-loop-lane
invariant-loop-lane l = Marked l.fn.self l.lane-items l.lane-index
