use Rattle.std.proofs.Common.{◌≡◌, ◌+◌, ◌++◌, ◌∷◌, [], Ok, length, ap, ◌∙◌, arith, length-append}
use Rattle.spin_pcap.specs.Passing.{left_for}
use Rattle.spin_pcap.proofs.CaptureRecords.{after_fault, after_packet, cuts_read, ends_read, next_read, stops_read, told_more}
use Rattle.spin_pcap.proofs.captured.read_records.Goals as goal

pub returns-in-Ok-End-clause-read : goal.returns-in-Ok-End-clause-read
returns-in-Ok-End-clause-read g c =
    let i = c.records.invariant in
    told_more _ _ (left_for c.args.reader.now.held (g.S.Source.seen c.args.source.now).left) i.read (λ bytes h.
    ends_read _ bytes c.records.reader c.in-Ok-End.field-0 _ _ c.records.frames c.next.new.frame _ i.reading i.order i.count c.in-Ok-End.field-0-is c.in-Ok-End.ensures.answer h)

pub returns-in-Ok-End-clause-few : goal.returns-in-Ok-End-clause-few
returns-in-Ok-End-clause-few g c = omega (arith, c.records.invariant.count, c.records.invariant.few)

pub returns-in-Ok-Cut-clause-read : goal.returns-in-Ok-Cut-clause-read
returns-in-Ok-Cut-clause-read g c =
    let i = c.records.invariant in
    told_more _ _ (left_for c.args.reader.now.held (g.S.Source.seen c.args.source.now).left) i.read (λ bytes h.
    cuts_read _ bytes c.records.reader c.in-Ok-Cut.field-0 c.in-Ok-Cut.cut _ _ c.records.frames c.next.new.frame _ i.reading i.order i.count c.in-Ok-Cut.field-0-is c.in-Ok-Cut.ensures.answer h)

pub returns-in-Ok-Cut-clause-few : goal.returns-in-Ok-Cut-clause-few
returns-in-Ok-Cut-clause-few g c = omega (arith, c.records.invariant.count, c.records.invariant.few)

pub returns-in-Err-clause-read : goal.returns-in-Err-clause-read
returns-in-Err-clause-read g c =
    let i = c.records.invariant in
    let given = after_fault c.records.reader c.next.new.self c.in-Err.fault _ i.reading c.in-Err.ensures.reader in
    let place : c.taken.result + 1 ≡ length c.records.frames + 1 = omega (arith, c.taken.ensures.taken, given, i.count) in
    told_more _ _ (left_for c.args.reader.now.held (g.S.Source.seen c.args.source.now).left) i.read (λ bytes h.
    stops_read _ bytes c.records.reader c.in-Err.fault _ c.at.result _ (left_for c.next.new.self.held (g.S.Source.seen c.next.new.source).left)
    c.records.frames c.next.new.frame _ i.reading i.order i.count place c.at.ensures c.in-Err.ensures.answer h)

pub records-preserved : goal.records-preserved
records-preserved g c =
    let i = c.records.invariant in
    let after = after_packet c.records.reader c.next.new.self c.in-Ok-Packet.field-0 _ i.reading c.in-Ok-Packet.field-0-is c.in-Ok-Packet.ensures.reader in
    let grown : c.push.new.self ≡ c.records.frames ++ c.next.new.frame ∷ [] = c.in-Ok.ensures.ok in
    record {
      reading = after.0;
      order = after.1 ∙ i.order;
      count = omega (arith, after.2, i.count, ap length grown, length-append c.records.frames (c.next.new.frame ∷ []));
      few = omega (arith, after.2, c.in-Ok-Packet.ensures.few (ap Ok c.in-Ok-Packet.field-0-is));
      read = told_more _ _ (left_for c.args.reader.now.held (g.S.Source.seen c.args.source.now).left) i.read (λ bytes h.
          next_read _ bytes c.records.reader c.next.new.self.held c.in-Ok-Packet.field-0 _ _ c.records.frames c.push.new.self
          c.next.new.frame _ i.reading i.order i.count c.in-Ok-Packet.field-0-is c.in-Ok-Packet.ensures.answer grown h);
      keep = c.next.ensures.passed.1.keep ∙ i.keep;
      stood = c.in-Ok-Packet.ensures.cause ∙ i.stood;
    }
