use Rattle.std.proofs.Common.{◌-◌}
use Rattle.spin_jobs.specs.Inner.Workers.{OfWord}
use Rattle.spin_jobs.proofs.WorkerLemmas.{Works}
use Rattle.spin_jobs.proofs.worker.Worker.work.Given as goal

abbrev pub invariant-loop-number : goal.invariant-loop-number
invariant-loop-number g l =
    OfWord l.count l.word l.self.seat × Works (goal.F-post g l.do_job) l.count l.self l.number

abbrev pub decreases-loop-number : goal.decreases-loop-number
decreases-loop-number g l = l.count - l.number
