use Rattle.std.proofs.Common.{map}
use Rattle.spin_endpoint.specs.Inner.View.{view_of}
use Rattle.spin_frames.specs.Written.{with_waiting}
use Rattle.spin_filter.specs.Sending.{outlets_at}
use Rattle.std.proofs.Common.{◌∷◌, [], arith}
use Rattle.spin_filter.proofs.Stopped.{err-out}
use Rattle.spin_filter.specs.Inner.Sends.{IsOf}
use Rattle.spin_filter.specs.Stops.{IsSentIn}
use Rattle.spin_filter.proofs.Doings.{stop-behind, sent-one, done-nothing, steps-more, steps-all}
use Rattle.spin_filter.proofs.sending.do_steps.Goals as goal

pub loop-step-init : goal.loop-step-init
loop-step-init g c = done-nothing c.args.passing.now.names.now c.args.passing.now.capture _

pub loop-step-preserved : goal.loop-step-preserved
loop-step-preserved g c =
    steps-more c.args.passing.now.names.now c.args.passing.now.capture c.args.taken.now c.args.steps.now c.loop-step.step-index c.step-item.result _ _ _ (omega arith) c.step-item.is
    c.loop-step.invariant c.in_ok-do_step.ensures

pub returns : goal.returns
returns g c =
    steps-all c.args.passing.now.names.now c.args.passing.now.capture c.args.taken.now c.args.steps.now c.loop-step.step-index _ _ (omega arith) c.loop-step.invariant

pub returns-in_err-do_step : goal.returns-in_err-do_step
returns-in_err-do_step g c =
    let at = λ (o : _). outlets_at (map (view_of (λ e. (goal.Endpoint-dyn g (e.object.vtable, e.object.value)).seen e.object.value)) o.ends.ends.items)
    (with_waiting (g.W.Sink.seen o.file.sink) o.file.waiting) o.counts in
    let taken = c.args.taken.now in
    err-out c.from_residual.result c.in_err-do_step.field-0.0 _ _ c.from_residual.ensures.1
    (stop-behind c.args.passing.now.names.now c.args.passing.now.capture (IsOf taken (IsSentIn (c.step-item.result ∷ []))) (IsOf taken (IsSentIn c.args.steps.now)) _ _ _ (at c.do_step.new.outlets) c.in_err-do_step.field-0.0
    (sent-one taken c.args.steps.now c.loop-step.step-index c.step-item.result (omega arith) c.step-item.is) c.loop-step.invariant c.in_err-do_step.ensures)
