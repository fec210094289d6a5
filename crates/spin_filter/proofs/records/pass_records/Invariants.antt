use Rattle.std.proofs.Common.{◌≡◌, map}
use Rattle.spin_endpoint.specs.Inner.View.{view_of}
use Rattle.spin_pcap.specs.Passing.{left_for}
use Rattle.spin_frames.specs.Written.{with_waiting}
use Rattle.spin_filter.specs.Sending.{outlets_at}
use Rattle.spin_filter.proofs.Doings.{passed_by}
use Rattle.spin_filter.proofs.Passings.{HasPassed}
use Rattle.spin_filter.proofs.records.pass_records.Given as goal

abbrev pub invariant-loop-number : goal.invariant-loop-number
invariant-loop-number g l =
    let at = λ (o : _). outlets_at (map (view_of (λ e. (goal.Endpoint-dyn g (e.object.vtable, e.object.value)).seen e.object.value)) o.ends.ends.items)
    (with_waiting (g.W.Sink.seen o.file.sink) o.file.waiting) o.counts in
    let seen = g.S.Source.seen in
    record {
      passed : HasPassed (passed_by l.passing) l.head (left_for l.fn.window (seen l.fn.source).left) l.number (left_for l.window (seen l.source).left) (at l.fn.outlets) (at l.outlets);
      faults : (seen l.source).faults ≡ (seen l.fn.source).faults;
      keep : (seen l.source).keep ≡ (seen l.fn.source).keep;
    }
