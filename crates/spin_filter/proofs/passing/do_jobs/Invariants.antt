use Rattle.std.proofs.Common.{map, take}
use Rattle.spin_endpoint.specs.Inner.View.{view_of}
use Rattle.spin_frames.specs.Written.{with_waiting}
use Rattle.spin_filter.specs.Sending.{outlets_at}
use Rattle.spin_filter.proofs.Doings.{passed_by, DoesJobs}
use Rattle.spin_filter.proofs.passing.do_jobs.Given as goal

abbrev pub invariant-loop-call : goal.invariant-loop-call
invariant-loop-call g l =
    let at = λ (o : _). outlets_at (map (view_of (λ e. (goal.Endpoint-dyn g (e.object.vtable, e.object.value)).seen e.object.value)) o.ends.ends.items)
    (with_waiting (g.W.Sink.seen o.file.sink) o.file.waiting) o.counts in
    DoesJobs (passed_by l.passing) l.taken (take l.call-index l.calls) (at l.fn.outlets) (at l.outlets)
