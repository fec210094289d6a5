use Rattle.std.proofs.Common.{◌≡◌, take}
use Rattle.spin_report.specs.Jobs.{answer_calls}
use Rattle.spin_seat.specs.Seats.{version_of}
use Rattle.spin_run.specs.Inner.Answering.{AddsJobs}
use Rattle.spin_run.proofs.jobs_left.leave_jobs.Given as goal

abbrev pub invariant-loop-call : goal.invariant-loop-call
invariant-loop-call l =
    AddsJobs l.entry (version_of l.seat) (take l.call-index (answer_calls l.entry.what)) l.fn.jobs l.jobs × (l.index ≡ l.call-index)
