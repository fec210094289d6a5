use Rattle.std.proofs.Common.{ap, map, refl, rules, sym, ◌≡◌, ◌∙◌, ◌∷◌, [], ℕ, List, Some, Option}
use Rattle.spin_endpoint.specs.Inner.View.{view_of}
use Rattle.spin_frames.specs.Written.{with_waiting}
use Rattle.spin_filter.specs.Sending.{outlets_at}
use Rattle.spin_proto.specs.declared.reply.Step.{Step}
use Rattle.spin_proto.specs.declared.reply.Step.TheVariants as step
use Rattle.spin_filter.specs.Counting.{Marked, Sending, sent_by}
use Rattle.spin_filter.specs.Inner.Sends.{IsOf}
use Rattle.spin_filter.specs.Stops.{IsSentIn}
use Rattle.spin_endpoint.specs.Sends.{SentSeen}
use Rattle.spin_filter.proofs.Stopped.{err-out}
use Rattle.spin_filter.proofs.Doings.{done-send, done-quiet, quiet-send, sent-step, stop-here}
use Rattle.spin_filter.proofs.sending.do_step.Goals as goal

pub returns-in_ok-send : goal.returns-in_ok-send
returns-in_ok-send g c =
    let marked : Marked = record { first = c.args.is_first; taken = c.args.step.now } in
    let as_sent : List ℕ → Option SentSeen = λ bytes. Some (record { endpoint = c.in-Send.endpoint; bytes = bytes }) in
    done-send c.args.passing.now.names.now c.args.passing.now.capture c.args.taken.now marked (record { endpoint = c.in-Send.endpoint; bytes = c.as_slice.result.now }) _ _ _
    (ap sent_by c.in-Send.is ∙ ap as_sent (sym c.as_slice.ensures)) c.note_step.ensures refl refl c.in_ok-send.ensures

pub returns-in_default : goal.returns-in_default
returns-in_default g c =
    let s : Step = c.args.step.now in
    let marked : Marked = record { first = c.args.is_first; taken = s } in
    done-quiet c.args.passing.now.names.now c.args.passing.now.capture c.args.taken.now marked _ _ (quiet-send s (search rules)) c.note_step.ensures refl refl

pub returns-in_err-send : goal.returns-in_err-send
returns-in_err-send g c =
    let at = λ (o : _). outlets_at (map (view_of (λ e. (goal.Endpoint-dyn g (e.object.vtable, e.object.value)).seen e.object.value)) o.ends.ends.items)
    (with_waiting (g.W.Sink.seen o.file.sink) o.file.waiting) o.counts in
    let sent : SentSeen = record { endpoint = c.in-Send.endpoint; bytes = c.as_slice.result.now } in
    let sending : Sending = record { taken = c.args.taken.now; sent = sent } in
    let is : c.args.step.now ≡ step.Send c.in-Send.endpoint c.as_slice.result.now = c.in-Send.is ∙ ap (λ bytes. step.Send c.in-Send.endpoint bytes) (sym c.as_slice.ensures) in
    err-out c.from_residual.result c.in_err-send.field-0.0 _ _ c.from_residual.ensures.1
    (stop-here c.args.passing.now.names.now c.args.passing.now.capture (λ s. s ≡ sending) (IsOf c.args.taken.now (IsSentIn (c.args.step.now ∷ []))) (at c.args.outlets.now) (at (record c.args.outlets.now { counts = c.note_step.new.self }))
    (at c.send.new.outlets) c.in_err-send.field-0.0 (sent-step c.args.taken.now c.args.step.now sent is) refl refl c.in_err-send.ensures)
