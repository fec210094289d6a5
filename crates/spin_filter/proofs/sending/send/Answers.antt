use Rattle.std.proofs.Common.{map}
use Rattle.spin_endpoint.specs.Inner.View.{view_of}
use Rattle.spin_frames.specs.Written.{with_waiting}
use Rattle.spin_filter.specs.Sending.{outlets_at}
use Rattle.std.proofs.Common.{◌≡◌, sym, refl, ◌∙◌}
use Rattle.spin_filter.specs.Counting.{Sending}
use Rattle.spin_filter.proofs.Stopped.{err-out}
use Rattle.spin_filter.proofs.Doings.{made-put, made-handed, stop-put, stop-hand}
use Rattle.spin_filter.proofs.sending.send.Goals as goal

pub returns-then-is_writer : goal.returns-then-is_writer
returns-then-is_writer g c =
    let sending : Sending = record {
      taken = c.args.taken.now;
      sent = record { endpoint = c.args.endpoint; bytes = c.args.bytes.now };
    } in
    made-put c.args.passing.now.names.now c.args.passing.now.capture sending _ _ (sym c.is_writer.ensures ∙ c.if-is_writer.true) c.in_ok-put_frame.ensures.put refl refl

pub returns : goal.returns
returns g c =
    let sending : Sending = record {
      taken = c.args.taken.now;
      sent = record { endpoint = c.args.endpoint; bytes = c.args.bytes.now };
    } in
    made-handed c.args.passing.now.names.now c.args.passing.now.capture sending _ _ (sym c.is_writer.ensures ∙ c.if-is_writer.false) c.in_ok-hand.ensures.handed refl

pub returns-in_err-put_frame : goal.returns-in_err-put_frame
returns-in_err-put_frame g c =
    let at = λ (o : _). outlets_at (map (view_of (λ e. (goal.Endpoint-dyn g (e.object.vtable, e.object.value)).seen e.object.value)) o.ends.ends.items)
    (with_waiting (g.W.Sink.seen o.file.sink) o.file.waiting) o.counts in
    let sending : Sending = record {
      taken = c.args.taken.now;
      sent = record { endpoint = c.args.endpoint; bytes = c.args.bytes.now };
    } in
    err-out c.from_residual.result c.in_err-put_frame.field-0.0 _ _ c.from_residual.ensures.1
    (stop-put c.args.passing.now.names.now c.args.passing.now.capture sending (at c.args.outlets.now) (at (record c.args.outlets.now { file = c.put_frame.new.file })) c.in_err-put_frame.field-0.0
    (sym c.is_writer.ensures ∙ c.if-is_writer.true) refl c.in_err-put_frame.ensures.stop)

pub returns-in_err-hand : goal.returns-in_err-hand
returns-in_err-hand g c =
    let at = λ (o : _). outlets_at (map (view_of (λ e. (goal.Endpoint-dyn g (e.object.vtable, e.object.value)).seen e.object.value)) o.ends.ends.items)
    (with_waiting (g.W.Sink.seen o.file.sink) o.file.waiting) o.counts in
    let sending : Sending = record {
      taken = c.args.taken.now;
      sent = record { endpoint = c.args.endpoint; bytes = c.args.bytes.now };
    } in
    err-out c.from_residual-in_err-hand.result c.in_err-hand.field-0.0 _ _ c.from_residual-in_err-hand.ensures.1
    (stop-hand c.args.passing.now.names.now c.args.passing.now.capture (λ s. s ≡ sending) c.args.endpoint (at c.args.outlets.now) (at (record c.args.outlets.now { ends = c.hand.new.ends; counts = c.hand.new.counts })) c.in_err-hand.field-0.0 c.in_err-hand.ensures.stop)
