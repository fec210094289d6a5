use Rattle.std.proofs.Common.{◌++◌, ◌∷◌, [], Ok, subst, ◌∙◌}
use Rattle.spin_pcap.specs.declared.next.Next.{Next}
use Rattle.spin_run.specs.Inner.Reading.{Reads, GivesNext}
use Rattle.spin_run.proofs.ReaderCalls.{reads_one, rest_whole, rest_cut}
use Rattle.spin_run.proofs.records.read_rest.Goals as goal

pub records-preserved : goal.records-preserved
records-preserved g c =
    let seen = g.S.Source.seen in
    let at = seen c.records.source in
    let now = seen c.pass_record.new.source in
    let r = c.in-Ok-Packet.ensures.answer in
    let given =
    subst (λ (x : Next). Reads {T = Next} c.records.capture at c.pass_record.new.capture now (Ok x) (GivesNext c.records.capture at c.pass_record.new.capture now r.0 (Ok x)))
    c.in-Ok-Packet.field-0-is r.1 in
    let h = c.records.invariant.read in
    record {
      read = (h.0 ++ r.0 ∷ [], reads_one _ _ _ _ _ _ h.0 _ h.1 given);
      keep = c.pass_record.ensures.keep ∙ c.records.invariant.keep;
      stood = c.in-Ok-Packet.ensures.cause ∙ c.records.invariant.stood;
    }

pub returns-in-Ok-End-clause-answer : goal.returns-in-Ok-End-clause-answer
returns-in-Ok-End-clause-answer g c =
    let seen = g.S.Source.seen in
    let at = seen c.records.source in
    let now = seen c.pass_record.new.source in
    let r = c.in-Ok-End.ensures.answer in
    let over =
    subst (λ (x : Next). Reads {T = Next} c.records.capture at c.pass_record.new.capture now (Ok x) (GivesNext c.records.capture at c.pass_record.new.capture now r.0 (Ok x)))
    c.in-Ok-End.field-0-is r.1 in
    let h = c.records.invariant.read in
    rest_whole _ _ _ _ _ _ h.0 h.1 over

pub returns-in-Ok-Cut-clause-answer : goal.returns-in-Ok-Cut-clause-answer
returns-in-Ok-Cut-clause-answer g c =
    let seen = g.S.Source.seen in
    let at = seen c.records.source in
    let now = seen c.pass_record.new.source in
    let r = c.in-Ok-Cut.ensures.answer in
    let over =
    subst (λ (x : Next). Reads {T = Next} c.records.capture at c.pass_record.new.capture now (Ok x) (GivesNext c.records.capture at c.pass_record.new.capture now r.0 (Ok x)))
    c.in-Ok-Cut.field-0-is r.1 in
    let h = c.records.invariant.read in
    rest_cut _ _ _ _ _ _ h.0 c.in-Ok-Cut.count h.1 over
