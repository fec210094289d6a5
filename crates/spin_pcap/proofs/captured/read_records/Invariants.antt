use Rattle.std.proofs.Common.{◌≡◌, ◌≤◌, ◌-◌, length, IfSome}
use Rattle.spin_pcap.specs.declared.limits.TheConstants.{MAX_RECORDS}
use Rattle.spin_pcap.specs.declared.state.State.TheVariants as state
use Rattle.spin_pcap.specs.Passing.{left_for}
use Rattle.spin_pcap.proofs.CaptureRecords.{HasRead}
use Rattle.spin_pcap.proofs.captured.read_records.Given as goal

abbrev pub invariant-records : goal.invariant-records
invariant-records g l =
    let seen = g.S.Source.seen in
    record {
      reading : l.reader.state ≡ state.Reading;
      order : l.reader.order ≡ l.fn.reader.order;
      count : l.reader.given ≡ length l.frames;
      few : l.reader.given ≤ MAX_RECORDS;
      read : IfSome (left_for l.fn.reader.held (seen l.fn.source).left) (λ bytes. HasRead l.fn.reader.order bytes l.frames (left_for l.reader.held (seen l.source).left));
      keep : (seen l.source).keep ≡ (seen l.fn.source).keep;
      stood : (seen l.source).faults ≡ (seen l.fn.source).faults;
    }

abbrev pub decreases-records : goal.decreases-records
decreases-records g l = MAX_RECORDS - l.reader.given
