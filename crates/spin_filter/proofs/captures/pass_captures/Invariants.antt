use Rattle.std.proofs.Common.{◌≡◌, map, take}
use Rattle.spin_endpoint.specs.Inner.View.{view_of}
use Rattle.spin_frames.specs.Written.{with_waiting}
use Rattle.spin_filter.specs.Inner.Stopping.{StandsStill}
use Rattle.spin_filter.specs.Sending.{outlets_at}
use Rattle.spin_filter.proofs.CapturesFound.{FindsCaptures}
use Rattle.spin_filter.proofs.Doings.{passed_by}
use Rattle.spin_filter.proofs.captures.pass_captures.Given as goal

abbrev pub invariant-loop-name : goal.invariant-loop-name
invariant-loop-name g l =
    let at = λ (o : _). outlets_at (map (view_of (λ e. (goal.Endpoint-dyn g (e.object.vtable, e.object.value)).seen e.object.value)) o.ends.ends.items)
    (with_waiting (g.W.Sink.seen o.file.sink) o.file.waiting) o.counts in
    let seen = g.F.Shelf.seen in
    record {
      passed : FindsCaptures (passed_by l.passing) (seen l.fn.shelf).files (take l.name-index l.captures) l.cut (at l.fn.outlets) (at l.outlets);
      stood : StandsStill (seen l.fn.shelf) (seen l.shelf);
      files : (seen l.shelf).files ≡ (seen l.fn.shelf).files;
    }
