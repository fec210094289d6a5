use Rattle.std.proofs.Common.{◌≡◌, ◌-◌, ℕ, List}
use Rattle.spin_pcap.specs.declared.limits.TheConstants.{MAX_RECORDS}
use Rattle.spin_run.specs.Inner.Reading.{given_by}
use Rattle.spin_run.proofs.ReaderCalls.{HasReadTo}
use Rattle.spin_run.proofs.records.read_rest.Given as goal

abbrev pub invariant-records : goal.invariant-records
invariant-records g l =
    let seen = g.S.Source.seen in
    record {
      read : (taken : List (List ℕ)) × HasReadTo l.fn.capture (seen l.fn.source) l.capture (seen l.source) taken;
      keep : (seen l.source).keep ≡ (seen l.fn.source).keep;
      stood : (seen l.source).faults ≡ (seen l.fn.source).faults;
    }

abbrev pub decreases-records : goal.decreases-records
decreases-records g l = MAX_RECORDS - given_by l.capture
