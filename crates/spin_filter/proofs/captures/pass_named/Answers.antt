use Rattle.std.proofs.Common.{◌≡◌, map, ap, rules, ◌∙◌}
use Rattle.spin_endpoint.specs.Inner.View.{view_of}
use Rattle.spin_frames.specs.Written.{with_waiting}
use Rattle.spin_filter.specs.Inner.Stopping.{StandsInFile, StandsNamed, StopsNamed, named_causes}
use Rattle.spin_filter.specs.Sending.{outlets_at, StopsSending}
use Rattle.spin_filter.specs.Stops.{IsSentFrom}
use Rattle.spin_filter.proofs.CapturesFound.{named-whole}
use Rattle.spin_filter.proofs.Doings.{passed_by, stop-wider}
use Rattle.spin_filter.proofs.Stopped.{err-out, moved, stops-as, but-sending, named-capture, sent-named}
use Rattle.spin_filter.proofs.captures.pass_named.Goals as goal

pub returns-clause-passed : goal.returns-clause-passed
returns-clause-passed g c =
    named-whole (passed_by c.args.passing.now) (g.F.Shelf.seen c.args.shelf.now).files c.args.name.now
    ((g.F.Shelf.seen c.find.new.self).left c.in-Ok.number) c.in_ok-cut.cut _ _ c.in-Ok.ensures.found c.in_ok-cut.ensures.passed

pub returns-clause-files : goal.returns-clause-files
returns-clause-files g c =
    let seen = g.F.Shelf.seen in
    let kept : (seen c.pass_capture.new.source.shelf.now).files ≡ (seen c.args.shelf.now).files = ap (λ k. k.files) c.pass_capture.ensures.keep ∙ c.find.ensures.files in
    search (rules, kept)

pub returns-in_err-cut-clause-passed : goal.returns-in_err-cut-clause-passed
returns-in_err-cut-clause-passed g c =
    let at = λ (o : _). outlets_at (map (view_of (λ e. (goal.Endpoint-dyn g (e.object.vtable, e.object.value)).seen e.object.value)) o.ends.ends.items)
    (with_waiting (g.W.Sink.seen o.file.sink) o.file.waiting) o.counts in
    let by = passed_by c.args.passing.now in
    let seen = g.F.Shelf.seen in
    let files = (seen c.args.shelf.now).files in
    let name = c.args.name.now in
    let left = (seen c.find.new.self).left c.in-Ok.number in
    let found = c.pass_capture.new.source.shelf.now in
    let before = at c.args.outlets.now in
    let after = at c.pass_capture.new.outlets in
    let why = c.in_err-cut.field-0.0 in
    let Own = IsSentFrom by.setup by.state by.round (StandsInFile left) in
    let Kind = IsSentFrom by.setup by.state by.round (StandsNamed files name) in
    let Sends = StopsSending by.names by.capture Own before after in
    err-out c.from_residual.result why _ _ c.from_residual.ensures.1
    (moved (λ (s : g.row.F.Denot). StopsNamed by.names by.capture Kind name (seen c.args.shelf.now) (seen s) before after why) found _
    (stops-as (but-sending (named_causes name (seen c.args.shelf.now) (seen found) Sends) (StopsSending by.names by.capture Kind before after)
    (λ w is. stop-wider by.names by.capture Own Kind before after w (sent-named by.setup by.state by.round files name left c.in-Ok.ensures.found) is)) why
    (stops-as (named-capture name (seen c.args.shelf.now) (seen found) left (seen c.find.new.self).faults Sends c.in-Ok.ensures.found c.in-Ok.ensures.cause.0) why c.in_err-cut.ensures.passed)) (search rules))
