use Rattle.std.proofs.Common.{◌≡◌, length}
use Rattle.spin_run.specs.Inner.Reading.{HasTaken}
use Rattle.spin_run.proofs.ReaderCalls.{HasReadTo}
use Rattle.spin_run.proofs.records.read_records.Given as goal

abbrev pub invariant-loop : goal.invariant-loop
invariant-loop g l =
    let seen = g.S.Source.seen in
    record {
      read : HasReadTo l.fn.capture (seen l.fn.source) l.capture (seen l.source) l.frames;
      took : HasTaken l.fn.capture l.capture (seen l.fn.source) (seen l.source) l.frames;
      count : length l.frames ≡ l.counter;
      keep : (seen l.source).keep ≡ (seen l.fn.source).keep;
      stood : (seen l.source).faults ≡ (seen l.fn.source).faults;
    }
