use Rattle.std.proofs.Common.{map, refl, ◌∷◌, [], ◌-◌, length, take, drop}
use Rattle.spin_endpoint.specs.Inner.View.{view_of}
use Rattle.spin_frames.specs.Written.{with_waiting}
use Rattle.spin_filter.specs.Sending.{outlets_at}
use Rattle.spin_filter.proofs.Stopped.{err-out}
use Rattle.spin_filter.specs.Inner.Sends.{IsOf}
use Rattle.spin_filter.specs.Stops.{IsSentIn}
use Rattle.spin_filter.proofs.Doings.{stop-behind, stop-here, sent-one, sent-rest, no-job-steps, job-steps, no-steps, some-steps, first-steps}
use Rattle.spin_filter.proofs.sending.do_job_steps.Goals as goal

pub returns-then-is_empty : goal.returns-then-is_empty
returns-then-is_empty g c =
    no-job-steps c.args.passing.now.names.now c.args.passing.now.capture c.args.taken.now c.args.steps.now _ (no-steps c.args.steps.now c.is_empty.result c.is_empty.ensures c.if-is_empty.true)

pub returns : goal.returns
returns g c =
    job-steps c.args.passing.now.names.now c.args.passing.now.capture c.args.taken.now c.args.steps.now _ c.index-steps-0.result _ _ _
    (first-steps c.args.steps.now c.index-steps-0.result c.is_empty.result c.is_empty.ensures c.if-is_empty.false c.index-steps-0.is) c.in_ok-do_step.ensures c.in_ok-do_steps.ensures

pub returns-in_err-do_steps : goal.returns-in_err-do_steps
returns-in_err-do_steps g c =
    let at = λ (o : _). outlets_at (map (view_of (λ e. (goal.Endpoint-dyn g (e.object.vtable, e.object.value)).seen e.object.value)) o.ends.ends.items)
    (with_waiting (g.W.Sink.seen o.file.sink) o.file.waiting) o.counts in
    let taken = c.args.taken.now in
    let steps = c.args.steps.now in
    let one = c.index-steps-0.result in
    let rest = take (length steps - 1) (drop 1 steps) in
    err-out c.from_residual-in_err-do_steps.result c.in_err-do_steps.field-0.0 _ _ c.from_residual-in_err-do_steps.ensures.1
    (stop-behind c.args.passing.now.names.now c.args.passing.now.capture (IsOf taken (IsSentIn rest)) (IsOf taken (IsSentIn steps)) _ _ _ (at c.do_steps.new.outlets) c.in_err-do_steps.field-0.0
    (sent-rest taken steps rest one (first-steps steps one c.is_empty.result c.is_empty.ensures c.if-is_empty.false c.index-steps-0.is)) c.in_ok-do_step.ensures c.in_err-do_steps.ensures)

pub returns-in_err-do_step : goal.returns-in_err-do_step
returns-in_err-do_step g c =
    let at = λ (o : _). outlets_at (map (view_of (λ e. (goal.Endpoint-dyn g (e.object.vtable, e.object.value)).seen e.object.value)) o.ends.ends.items)
    (with_waiting (g.W.Sink.seen o.file.sink) o.file.waiting) o.counts in
    let taken = c.args.taken.now in
    let steps = c.args.steps.now in
    let one = c.index-steps-0.result in
    err-out c.from_residual.result c.in_err-do_step.field-0.0 _ _ c.from_residual.ensures.1
    (stop-here c.args.passing.now.names.now c.args.passing.now.capture (IsOf taken (IsSentIn (one ∷ []))) (IsOf taken (IsSentIn steps)) (at c.args.outlets.now) (at c.args.outlets.now) (at c.do_step.new.outlets) c.in_err-do_step.field-0.0
    (sent-one taken steps 0 one (some-steps steps c.is_empty.result c.is_empty.ensures c.if-is_empty.false) c.index-steps-0.is) refl refl c.in_err-do_step.ensures)
