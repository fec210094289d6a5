use Rattle.std.proofs.Common.{◌≡◌, ◌≤◌, length, ap, sym, ◌∙◌, arith, []}
use Rattle.spin_pcap.specs.Captures.{captured_length}
use Rattle.spin_pcap.proofs.SourceBytes.{passes-then}
use Rattle.spin_pcap.proofs.Growing.{at_least}
use Rattle.spin_frames.proofs.HeldRecords.{says, says-still}
use Rattle.spin_frames.proofs.records.find_record.Goals as goal

pub returns-in_err-need-2-clause-passed : goal.returns-in_err-need-2-clause-passed
returns-in_err-need-2-clause-passed g c = passes-then [] [] _ _ _ _ _ _ c.need.ensures.passed c.need-2.ensures.passed

pub returns-then-held-size-clause-passed : goal.returns-then-held-size-clause-passed
returns-then-held-size-clause-passed g c = passes-then [] [] _ _ _ _ _ _ c.need.ensures.passed c.need-2.ensures.passed

pub returns-clause-passed : goal.returns-clause-passed
returns-clause-passed g c = passes-then [] [] _ _ _ _ _ _ c.need.ensures.passed c.need-2.ensures.passed

pub returns-then-held-size-clause-finds : goal.returns-then-held-size-clause-finds
returns-then-held-size-clause-finds g c =
    let size : 16 ≤ length c.need.new.self = omega (arith, c.if-held-lt-RECORD.false, ap length c.held-held.ensures.same) in
    let first : captured_length c.args.order c.need.new.self ≡ c.read_u32-captured.result =
    says c.args.order c.held-held.result.now c.need.new.self c.read_u32-captured.result c.held-held.ensures.same c.read_u32-captured.ensures in
    let still : captured_length c.args.order c.need-2.new.self ≡ c.read_u32-captured.result =
    says-still c.args.order c.need.new.self c.need-2.new.self size c.need-2.ensures.grown ∙ first in
    let held : length c.held-held-2.result.now ≡ length c.need-2.new.self = ap length c.held-held-2.ensures.same in
    let more : length c.need.new.self ≤ length c.need-2.new.self = at_least c.need.new.self c.need-2.new.self c.need-2.ensures.grown in (
      sym held,
      c.in_ok-need-2.ensures.end (omega (arith, held, c.if-held-size.true)),
      omega (arith, held, more, size),
      λ _. (omega (arith, still, c.if-captured-gt-MAX_CAPTURED.false), omega (arith, still, held, c.if-held-size.true)),
    )

pub returns-clause-finds : goal.returns-clause-finds
returns-clause-finds g c =
    let size : 16 ≤ length c.need.new.self = omega (arith, c.if-held-lt-RECORD.false, ap length c.held-held.ensures.same) in
    let first : captured_length c.args.order c.need.new.self ≡ c.read_u32-captured.result =
    says c.args.order c.held-held.result.now c.need.new.self c.read_u32-captured.result c.held-held.ensures.same c.read_u32-captured.ensures in
    let held : length c.held-held-2.result.now ≡ length c.need-2.new.self = ap length c.held-held-2.ensures.same in (
      says-still c.args.order c.need.new.self c.need-2.new.self size c.need-2.ensures.grown ∙ first,
      omega (arith, c.if-captured-gt-MAX_CAPTURED.false),
      omega (arith, held, c.if-held-size.false),
    )
