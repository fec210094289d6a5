use Rattle.std.proofs.Common.{◌≡◌, ◌++◌, ◌+◌, ℕ, List, Ok, Err, length, rules, ap, refl, ◌∙◌, arith}
use Rattle.spin_pcap.specs.Passing.{left_for}
use Rattle.spin_pcap.specs.declared.next.Next.TheVariants as next
use Rattle.spin_pcap.specs.Whole.{bad_at}
use Rattle.spin_reass.specs.JoinedCaptures.{record_of}
use Rattle.spin_reass.proofs.GivenRecords.{given_none, given_one, given_end, given_cut}
use Rattle.spin_pcap.proofs.CaptureRecords.{after_packet, after_fault, told_more}
use Rattle.spin_reass.proofs.JoinedRecords.{SoFar, JoinsFrame, told_each, joined_none, joined_one, packet_few, rest_given, joins_all, joins_stop}
use Rattle.spin_reass.proofs.join.join_records.Goals as goal

pub records-init : goal.records-init
records-init g c = record {
  reading = c.requires.1;
  order = refl;
  joined = told_each _ (left_for c.args.reader.now.held (g.S.Source.seen c.args.source.now).left) (λ bytes told. joined_none _ bytes _ _ _ _ c.requires.0 c.new-joiner.ensures told);
  given = given_none _ _ _ c.requires.0 c.new-joiner.ensures;
  keep = refl;
  stood = refl;
}

pub put_record-requires : goal.put_record-requires
put_record-requires g c =
    let few = packet_few _ c.in-Ok-Packet.field-0 _ c.next.new.frame c.in-Ok-Packet.field-0-is c.in-Ok-Packet.ensures.passed.2 in
    let is : c.deref.result.now ≡ c.join.new.frame = search rules in
    omega (arith, c.in_ok-join-in-Ok-Packet.ensures.bound, ap length is)

pub records-preserved : goal.records-preserved
records-preserved g c =
    let i = c.records.invariant in
    let after = after_packet c.records.reader c.next.new.self c.in-Ok-Packet.field-0 _ i.reading c.in-Ok-Packet.field-0-is c.in-Ok-Packet.ensures.reader in
    let few = packet_few _ c.in-Ok-Packet.field-0 _ c.next.new.frame c.in-Ok-Packet.field-0-is c.in-Ok-Packet.ensures.passed.2 in
    let frame : List ℕ = c.next.new.frame in
    let now : SoFar = record { given = c.records.reader.given; datagrams = c.records.joiner; out = c.records.out.items } in
    let later : SoFar = record { given = c.next.new.self.given; datagrams = c.join.new.self; out = c.put_record.new.out.items } in
    let written : later.out ≡ now.out ++ record_of c.join.new.frame = search rules in
    let joins : JoinsFrame frame now later = record {
      given = after.2;
      datagrams = c.in_ok-join-in-Ok-Packet.ensures.datagrams;
      out = written ∙ ap (λ f. now.out ++ record_of f) c.in_ok-join-in-Ok-Packet.ensures.frame;
    } in
    record {
      reading = after.0;
      order = after.1 ∙ i.order;
      joined = told_more _ _ (left_for c.args.reader.now.held (g.S.Source.seen c.args.source.now).left) i.joined (λ bytes h.
          joined_one _ bytes _ frame now _ _ _ h
          (rest_given _ c.records.reader (Ok c.in-Ok-Packet.field-0) _ _ _ frame _ i.reading i.order (ap Ok c.in-Ok-Packet.field-0-is) c.in-Ok-Packet.ensures.answer) joins);
      given = given_one _ frame now _ i.given (c.in-Ok-Packet.ensures.few (ap Ok c.in-Ok-Packet.field-0-is)) few joins;
      keep = c.next.ensures.passed.1.keep ∙ i.keep;
      stood = c.in-Ok-Packet.ensures.cause ∙ i.stood;
    }

pub returns-in-Ok-End-clause-joined : goal.returns-in-Ok-End-clause-joined
returns-in-Ok-End-clause-joined g c =
    let i = c.records.invariant in
    told_more _ _ (left_for c.args.reader.now.held (g.S.Source.seen c.args.source.now).left) i.joined (λ bytes h.
    joins_all _ bytes _ _ _ next.End h
    (rest_given _ c.records.reader (Ok c.in-Ok-End.field-0) (Ok next.End) _ _ c.next.new.frame _ i.reading i.order (ap Ok c.in-Ok-End.field-0-is) c.in-Ok-End.ensures.answer))

pub returns-in-Ok-End-clause-some : goal.returns-in-Ok-End-clause-some
returns-in-Ok-End-clause-some g c = given_end _ _ c.records.invariant.given

pub returns-in-Ok-Cut-clause-some : goal.returns-in-Ok-Cut-clause-some
returns-in-Ok-Cut-clause-some g c =
    let i = c.records.invariant in
    given_cut _ _ _ c.in-Ok-Cut.field-0 c.in-Ok-Cut.count i.reading c.in-Ok-Cut.field-0-is c.in-Ok-Cut.ensures.cut i.given

pub returns-in-Ok-Cut-clause-joined : goal.returns-in-Ok-Cut-clause-joined
returns-in-Ok-Cut-clause-joined g c =
    let i = c.records.invariant in
    told_more _ _ (left_for c.args.reader.now.held (g.S.Source.seen c.args.source.now).left) i.joined (λ bytes h.
    joins_all _ bytes _ _ _ (next.Cut c.in-Ok-Cut.count) h
    (rest_given _ c.records.reader (Ok c.in-Ok-Cut.field-0) (Ok (next.Cut c.in-Ok-Cut.count)) _ _ c.next.new.frame _ i.reading i.order (ap Ok c.in-Ok-Cut.field-0-is) c.in-Ok-Cut.ensures.answer))

pub returns-in-Err-clause-joined : goal.returns-in-Err-clause-joined
returns-in-Err-clause-joined g c =
    let i = c.records.invariant in
    let wrong = c.in-Err.fault in
    let given : c.taken.result ≡ c.records.reader.given = c.taken.ensures.taken ∙ after_fault c.records.reader c.next.new.self wrong _ i.reading c.in-Err.ensures.reader in
    told_more _ _ (left_for c.args.reader.now.held (g.S.Source.seen c.args.source.now).left) i.joined (λ bytes h.
    joins_stop _ bytes _ _ _ wrong c.at.result h (c.at.ensures ∙ ap (λ n. bad_at (n + 1) wrong) given)
    (rest_given _ c.records.reader (Err wrong) (Err wrong) _ (left_for c.next.new.self.held (g.S.Source.seen c.next.new.source).left) c.next.new.frame _ i.reading i.order refl c.in-Err.ensures.answer))
