use Rattle.std.specs.List.{All}
use Rattle.spin_table.specs.SetupOf.{data_of}
use Rattle.spin_jobs.specs.Jobs.{CanRun}
use Rattle.spin_tests.proofs.jobs.jobs_of.Given as goal

-- the jobs so far can be done
abbrev pub invariant-loop-number : goal.invariant-loop-number
invariant-loop-number g l = All (CanRun (data_of l.setup)) l.jobs
