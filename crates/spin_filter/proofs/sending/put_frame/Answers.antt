use Rattle.std.proofs.Common.{◌≡◌, ◌⊎◌, ℕ, List, [], refl, sym, ap, subst, ◌∙◌}
use Rattle.std.specs.Io.KnownBytes.{Appends}
use Rattle.spin_frames.specs.Packets.{Packet}
use Rattle.spin_frames.specs.Written.{written_record, with_waiting}
use Rattle.spin_filter.proofs.sending.put_frame.Goals as goal

pub returns-in-Ok-clause-put : goal.returns-in-Ok-clause-put
returns-in-Ok-clause-put g c =
    let taken = c.args.taken.now in
    let packet : List ℕ → List ℕ → Packet = λ header frame. record { header = header; frame = frame } in
    let same : written_record c.head.result (packet c.header.result.now c.frame-2.result.now) ≡ written_record taken.head taken.packet =
    ap (λ h. written_record h (packet c.header.result.now c.frame-2.result.now)) c.head.ensures
    ∙ ap (λ h. written_record taken.head (packet h c.frame-2.result.now)) c.header.ensures.same
    ∙ ap (λ f. written_record taken.head (packet taken.packet.header f)) c.frame-2.ensures in
    record {
      frame = subst (λ (f : List ℕ). (c.args.bytes.now ≡ f) ⊎ (c.args.bytes.now ≡ [])) c.frame.ensures (c.is_frame.ensures.is c.if-not-is_frame.false);
      written = subst (λ (bs : List ℕ). Appends (with_waiting (g.W.Sink.seen c.args.file.now.sink) c.args.file.now.waiting).told
          (with_waiting (g.W.Sink.seen c.put_record.new.file.sink) c.put_record.new.file.waiting).told bs) same c.in-Ok.ensures.taken;
      still = c.in-Ok.ensures.cause;
    }

pub returns-then-not-is_frame-clause-stop : goal.returns-then-not-is_frame-clause-stop
returns-then-not-is_frame-clause-stop g c = record {
  endpoint = refl;
  still = refl;
  other = λ is. c.is_frame.ensures.other c.if-not-is_frame.true (subst (λ (f : List ℕ). (c.args.bytes.now ≡ f) ⊎ (c.args.bytes.now ≡ [])) (sym c.frame.ensures) is);
}
