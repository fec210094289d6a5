use Rattle.std.proofs.Common.{map, take}
use Rattle.spin_endpoint.specs.Inner.View.{view_of}
use Rattle.spin_frames.specs.Written.{with_waiting}
use Rattle.spin_filter.specs.Counting.{just_steps, later_steps}
use Rattle.spin_filter.specs.Sending.{outlets_at, IsDone}
use Rattle.spin_filter.proofs.sending.do_steps.Given as goal

abbrev pub invariant-loop-step : goal.invariant-loop-step
invariant-loop-step g l =
    let at = λ (o : _). outlets_at (map (view_of (λ e. (goal.Endpoint-dyn g (e.object.vtable, e.object.value)).seen e.object.value)) o.ends.ends.items)
    (with_waiting (g.W.Sink.seen o.file.sink) o.file.waiting) o.counts in
    IsDone l.passing.names.now l.passing.capture (just_steps l.taken (later_steps (take l.step-index l.steps))) (at l.fn.outlets) (at l.outlets)
