use Rattle.std.proofs.Common.{◌≡◌, ◌-◌, IfSome}
use Rattle.spin_pcap.specs.declared.limits.TheConstants.{MAX_RECORDS}
use Rattle.spin_pcap.specs.declared.state.State.TheVariants as state
use Rattle.spin_pcap.specs.Passing.{left_for}
use Rattle.spin_reass.proofs.GivenRecords.{HasGiven}
use Rattle.spin_reass.proofs.JoinedRecords.{SoFar, HasJoined}
use Rattle.spin_reass.proofs.join.join_records.Given as goal

abbrev pub invariant-records : goal.invariant-records
invariant-records g l =
    let seen = g.S.Source.seen in
    let now : SoFar = record { given = l.reader.given; datagrams = l.joiner; out = l.out.items } in
    record {
      reading : l.reader.state ≡ state.Reading;
      order : l.reader.order ≡ l.fn.reader.order;
      joined : IfSome (left_for l.fn.reader.held (seen l.fn.source).left)
          (λ bytes. HasJoined l.fn.reader.order bytes l.fn.out.items now (left_for l.reader.held (seen l.source).left));
      given : HasGiven l.fn.out.items now;
      keep : (seen l.source).keep ≡ (seen l.fn.source).keep;
      stood : (seen l.source).faults ≡ (seen l.fn.source).faults;
    }

abbrev pub decreases-records : goal.decreases-records
decreases-records g l = MAX_RECORDS - l.reader.given
