use Rattle.spin_run.proofs.GatheredTrails.{Gathered}
use Rattle.spin_run.proofs.lanes.Lanes.gather.Given as goal

abbrev pub invariant-loop-lane : goal.invariant-loop-lane
invariant-loop-lane l = Gathered l.fn.self l.lane-items l.lane-index l.trails l.marks l.jobs
