use Rattle.std.proofs.Common.{◌≡◌, ◌≤◌, ◌<◌, ◌-◌, ◌++◌, ℕ, List, [], length, take, drop, sym, ap, ◌∙◌, subst, arith}
use Rattle.std.proofs.lemmas.List.{length-append, length-take, take_rest}
use Rattle.std.specs.Io.KnownBytes.{IsAtEnd}
use Rattle.spin_outside.specs.Sources.{SourceSeen}
use Rattle.spin_pcap.specs.declared.fault.PcapFault.{PcapFault}
use Rattle.spin_pcap.specs.declared.order.Order.{Order}
use Rattle.spin_pcap.specs.Captures.{ordered_number, captured_length}
use Rattle.spin_pcap.specs.Passing.{Passes}
use Rattle.spin_pcap.proofs.SourceBytes.{copies-whole, copies-part, failed, no_refusal, whatever}
use Rattle.spin_pcap.proofs.WholeRecords.{passes-record, within_record, answers-packet, header-left}
use Rattle.spin_pcap.proofs.reader.read_record.Goals as goal

-- the body, where the header was skipped
behind : (frame held held' held'' : List ℕ) (source source' : SourceSeen) → held' ≡ drop 16 held → Passes frame held' source held'' source' → Passes frame (drop 16 held) source held'' source'
behind frame held held' held'' source source' is p = subst (λ (ys : List ℕ). Passes frame ys source held'' source') is p

-- what the header at the front of what is held says
says : (way : Order) (held held' : List ℕ) (read : ℕ) → held ≡ held' → read ≡ ordered_number way 4 (take (length held - 8) (drop 8 held)) → captured_length way held' ≡ read
says way held held' read same is =
    ap (λ ys. captured_length way ys) (sym same) ∙ ap (λ ys. ordered_number way 4 ys) (sym (take_rest held 8)) ∙ sym is

pub returns-in-Err-clause-answer : goal.returns-in-Err-clause-answer
returns-in-Err-clause-answer g c = whatever _ _ (λ bytes. failed _ _ c.in-Err.ensures.failed)

pub returns-in-Err-clause-passed : goal.returns-in-Err-clause-passed
returns-in-Err-clause-passed g c =
    let size : 16 ≤ length c.need.new.self = omega (arith, c.if-held-lt-RECORD.false, ap length c.held-held.ensures.same) in (
      take 16 c.need.new.self ++ c.copy_body.new.frame,
      passes-record c.args.window.now c.need.new.self c.copy_body.new.window c.copy_body.new.frame _ _ _ c.need.ensures.passed size
          (behind c.copy_body.new.frame c.need.new.self c.skip.new.self c.copy_body.new.window _ _ c.skip.ensures.skipped c.copy_body.ensures.passed),
      within_record c.args.order c.need.new.self c.copy_body.new.frame c.read_u32-captured.result size
          (says c.args.order c.held-held.result.now c.need.new.self c.read_u32-captured.result c.held-held.ensures.same c.read_u32-captured.ensures) c.in-Err.ensures.copied
          (omega (arith, c.if-captured-gt-MAX_CAPTURED.false)),
    )

pub returns-then-whole-clause-passed : goal.returns-then-whole-clause-passed
returns-then-whole-clause-passed g c =
    let size : 16 ≤ length c.need.new.self = omega (arith, c.if-held-lt-RECORD.false, ap length c.held-held.ensures.same) in
    let all : length c.copy_body.new.frame ≡ c.read_u32-captured.result = copies-whole PcapFault _ _ _ _ _ c.if-whole.true c.in-Ok.ensures.copied in (
      take 16 c.need.new.self ++ c.copy_body.new.frame,
      passes-record c.args.window.now c.need.new.self c.copy_body.new.window c.copy_body.new.frame _ _ _ c.need.ensures.passed size
          (behind c.copy_body.new.frame c.need.new.self c.skip.new.self c.copy_body.new.window _ _ c.skip.ensures.skipped c.copy_body.ensures.passed),
      (
        omega (arith, length-append (take 16 c.need.new.self) c.copy_body.new.frame, length-take 16 c.need.new.self),
        omega (arith, all, c.if-captured-gt-MAX_CAPTURED.false),
      ),
    )

pub returns-else-whole-clause-passed : goal.returns-else-whole-clause-passed
returns-else-whole-clause-passed g c =
    let size : 16 ≤ length c.need.new.self = omega (arith, c.if-held-lt-RECORD.false, ap length c.held-held.ensures.same) in
    let part : (length c.copy_body.new.frame < c.read_u32-captured.result) × (c.copy_body.new.window ≡ []) × IsAtEnd (g.S.Source.seen c.copy_body.new.source).left =
    copies-part PcapFault _ _ _ _ _ c.if-whole.false c.in-Ok.ensures.copied in (
      take 16 c.need.new.self ++ c.copy_body.new.frame,
      passes-record c.args.window.now c.need.new.self c.copy_body.new.window c.copy_body.new.frame _ _ _ c.need.ensures.passed size
          (behind c.copy_body.new.frame c.need.new.self c.skip.new.self c.copy_body.new.window _ _ c.skip.ensures.skipped c.copy_body.ensures.passed),
      within_record c.args.order c.need.new.self c.copy_body.new.frame c.read_u32-captured.result size
          (says c.args.order c.held-held.result.now c.need.new.self c.read_u32-captured.result c.held-held.ensures.same c.read_u32-captured.ensures)
          (omega (arith, part.0)) (omega (arith, c.if-captured-gt-MAX_CAPTURED.false)),
    )

pub returns-then-whole-clause-answer : goal.returns-then-whole-clause-answer
returns-then-whole-clause-answer g c =
    let same : c.held-held.result.now ≡ c.need.new.self = c.held-held.ensures.same in
    let size : 16 ≤ length c.need.new.self = omega (arith, c.if-held-lt-RECORD.false, ap length same) in
    let all : length c.copy_body.new.frame ≡ c.read_u32-captured.result = copies-whole PcapFault _ _ _ _ _ c.if-whole.true c.in-Ok.ensures.copied in
    let says : captured_length c.args.order c.need.new.self ≡ c.read_u32-captured.result =
    says c.args.order c.held-held.result.now c.need.new.self c.read_u32-captured.result same c.read_u32-captured.ensures in
    answers-packet c.args.order c.args.given c.args.window.now c.need.new.self c.copy_body.new.window c.copy_body.new.frame _ _ _ c.need.ensures.passed size
    (behind c.copy_body.new.frame c.need.new.self c.skip.new.self c.copy_body.new.window _ _ c.skip.ensures.skipped c.copy_body.ensures.passed)
    (omega (arith, c.if-given-ge-MAX_RECORDS.false)) (says ∙ sym all) (omega (arith, all, c.if-captured-gt-MAX_CAPTURED.false))

pub returns-else-whole-clause-cut : goal.returns-else-whole-clause-cut
returns-else-whole-clause-cut g c =
    let part : (length c.copy_body.new.frame < c.read_u32-captured.result) × (c.copy_body.new.window ≡ []) × IsAtEnd (g.S.Source.seen c.copy_body.new.source).left =
    copies-part PcapFault _ _ _ _ _ c.if-whole.false c.in-Ok.ensures.copied in
    (omega (arith, c.if-given-ge-MAX_RECORDS.false), omega (arith, part.0), omega (arith, part.0, c.if-captured-gt-MAX_CAPTURED.false))

pub returns-in-Err-clause-refused : goal.returns-in-Err-clause-refused
returns-in-Err-clause-refused g c = no_refusal c.args.given _ (omega (arith, c.if-given-ge-MAX_RECORDS.false)) c.in-Err.ensures.failed

pub returns-in-Err-clause-memory : goal.returns-in-Err-clause-memory
returns-in-Err-clause-memory g c =
    let same : c.held-held.result.now ≡ c.need.new.self = c.held-held.ensures.same in
    let says : captured_length c.args.order c.need.new.self ≡ c.read_u32-captured.result =
    says c.args.order c.held-held.result.now c.need.new.self c.read_u32-captured.result same c.read_u32-captured.ensures in
    λ _. header-left c.args.order c.args.given c.args.window.now c.need.new.self _ _ c.need.ensures.passed
    (omega (arith, c.if-held-lt-RECORD.false, ap length same)) (omega (arith, c.if-given-ge-MAX_RECORDS.false))
    (omega (arith, says, c.if-captured-gt-MAX_CAPTURED.false))
