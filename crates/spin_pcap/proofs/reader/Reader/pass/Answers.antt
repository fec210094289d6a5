use Rattle.std.proofs.Common.{◌≡◌, ◌++◌, ℕ, List, length, take, drop, sym, ap, ◌∙◌, subst, arith, Ok, IfSome}
use Rattle.std.proofs.lemmas.List.{length-append, length-take-le, length-drop, drop-drop}
use Rattle.spin_outside.specs.Sources.{SourceSeen}
use Rattle.spin_pcap.specs.declared.next.Next.TheVariants as next
use Rattle.spin_pcap.specs.Captures.{captured_length}
use Rattle.spin_pcap.specs.Passing.{ReaderState, Passes, IsAnswer, IsGone, IfReading, left_for}
use Rattle.spin_pcap.specs.Inner.Held.{HasPassed}
use Rattle.spin_pcap.proofs.SourceBytes.{passes-none, passes-skip}
use Rattle.spin_pcap.proofs.WholeRecords.{passes-record, answers-packet}
use Rattle.spin_pcap.proofs.reader.Reader.pass.Goals as goal

-- the bytes of a record that is held
frame_of : ReaderState → List ℕ
frame_of r = take (captured_length r.order r.held) (drop 16 r.held)

size_of : (before after : ReaderState) → HasPassed before after → length (frame_of before) ≡ captured_length before.order before.held
unfolding frame_of
size_of before after h = length-take-le (captured_length before.order before.held) (drop 16 before.held) (omega (arith, length-drop 16 before.held, h.whole))

-- they are gone behind the header
gone_of : (before after : ReaderState) (source : SourceSeen) → HasPassed before after → Passes (frame_of before) (drop 16 before.held) source after.held source
unfolding frame_of
gone_of before after source h =
    let n = captured_length before.order before.held in
    let is : after.held ≡ drop n (drop 16 before.held) = ap (λ (r : ReaderState). r.held) h.reader ∙ sym (drop-drop n 16 before.held) in
    subst (λ (ys : List ℕ). Passes (take n (drop 16 before.held)) (drop 16 before.held) source ys source) (sym is)
    (passes-skip (drop 16 before.held) source n (omega (arith, length-drop 16 before.held, h.whole)))

answers : (before after : ReaderState) (source : SourceSeen) (other : Type 0) → HasPassed before after → IfReading before.state
    (IfSome (left_for before.held source.left) (λ bytes. IsAnswer before.order before.given bytes (Ok next.Packet) (frame_of before) (left_for after.held source.left))) other
answers before after source other h =
    subst (λ s. IfReading s (IfSome (left_for before.held source.left) (λ bytes. IsAnswer before.order before.given bytes (Ok next.Packet) (frame_of before) (left_for after.held source.left))) other)
    (sym h.reading)
    (answers-packet before.order before.given before.held before.held after.held (frame_of before) source source source (passes-none before.held source)
    (omega (arith, h.whole)) (gone_of before after source h) h.few (sym (size_of before after h)) (omega (arith, size_of before after h, h.small)))

passes : (before after : ReaderState) (source : SourceSeen) → HasPassed before after → Passes (take 16 before.held ++ frame_of before) before.held source after.held source
passes before after source h =
    passes-record before.held before.held after.held (frame_of before) source source source (passes-none before.held source) (omega (arith, h.whole)) (gone_of before after source h)

is_gone : (before after : ReaderState) → HasPassed before after → IsGone before.order (Ok next.Packet) (take 16 before.held ++ frame_of before) (frame_of before)
is_gone before after h = (
  omega (arith, length-append (take 16 before.held) (frame_of before), length-take-le 16 before.held (omega (arith, h.whole))),
  omega (arith, size_of before after h, h.small),
)

pub returns-then-pass_held-clause-record : goal.returns-then-pass_held-clause-record
returns-then-pass_held-clause-record g c =
    let h = c.pass_held.ensures.passed c.if-pass_held.true in
    let now = g.S.Source.seen c.args.source.now in (
      frame_of c.args.self.now,
      answers c.args.self.now c.pass_held.new.self now _ h,
      take 16 c.args.self.now.held ++ frame_of c.args.self.now,
      passes c.args.self.now c.pass_held.new.self now h,
      is_gone c.args.self.now c.pass_held.new.self h,
    )
