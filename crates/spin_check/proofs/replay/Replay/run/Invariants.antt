use Rattle.std.proofs.Common.{length}
use Rattle.spin_table.specs.SetupOf.{data_of}
use Rattle.spin_check.proofs.ReplaySteps.{IsOnWay}
use Rattle.spin_check.proofs.replay.Replay.run.Given as goal

abbrev pub invariant-loop-alloc : goal.invariant-loop-alloc
invariant-loop-alloc g l = IsOnWay (data_of l.setup) l.fn.self l.replay

abbrev pub decreases-loop-alloc : goal.decreases-loop-alloc
decreases-loop-alloc g l = length l.replay.rest
