use Rattle.spin_run.proofs.KeptEntries.{Taking}
use Rattle.spin_run.proofs.lanes.Lanes.gather_entries.Given as goal

abbrev pub invariant-loop-lane : goal.invariant-loop-lane
invariant-loop-lane l = Taking l.fn.self l.lane-items l.lane-index l.all
