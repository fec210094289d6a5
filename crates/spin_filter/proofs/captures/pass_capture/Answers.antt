use Rattle.std.proofs.Common.{map}
use Rattle.spin_endpoint.specs.Inner.View.{view_of}
use Rattle.spin_frames.specs.Written.{with_waiting}
use Rattle.spin_filter.specs.Sending.{outlets_at, StopsSending}
use Rattle.spin_pcap.specs.Passing.{left_for}
use Rattle.spin_filter.specs.Inner.Stopping.{StandsBehind, StandsInFile, capture_causes}
use Rattle.spin_filter.specs.Stops.{IsSentFrom}
use Rattle.spin_filter.proofs.CapturesFound.{capture-whole}
use Rattle.spin_filter.proofs.Doings.{passed_by, stop-wider}
use Rattle.spin_filter.proofs.Stopped.{err-out, stops-as, but-sending, stops-reading, header_causes, capture-header, capture-records, sent-file}
use Rattle.spin_filter.proofs.captures.pass_capture.Goals as goal

pub returns-clause-passed : goal.returns-clause-passed
returns-clause-passed g c =
    capture-whole (passed_by c.args.passing.now) (g.S.Source.seen c.args.source.now).left _
    c.in_ok-head.head c.in_ok-cut.cut _ _ c.in_ok-head.ensures.head c.in_ok-cut.ensures.passed

pub returns-in_err-head-clause-passed : goal.returns-in_err-head-clause-passed
returns-in_err-head-clause-passed g c =
    let at = λ (o : _). outlets_at (map (view_of (λ e. (goal.Endpoint-dyn g (e.object.vtable, e.object.value)).seen e.object.value)) o.ends.ends.items)
    (with_waiting (g.W.Sink.seen o.file.sink) o.file.waiting) o.counts in
    let by = passed_by c.args.passing.now in
    let whole = (g.S.Source.seen c.args.source.now).left in
    let why = c.in_err-head.field-0.0 in
    let Sends = StopsSending by.names by.capture (IsSentFrom by.setup by.state by.round (StandsInFile whole)) (at c.args.outlets.now) (at c.args.outlets.now) in
    err-out c.from_residual.result why _ _ c.from_residual.ensures.1
    (stops-as (capture-header whole _ _ Sends) why (stops-reading (header_causes whole _ _ Sends) tt why c.in_err-head.ensures.stop))

pub returns-in_err-cut-clause-passed : goal.returns-in_err-cut-clause-passed
returns-in_err-cut-clause-passed g c =
    let at = λ (o : _). outlets_at (map (view_of (λ e. (goal.Endpoint-dyn g (e.object.vtable, e.object.value)).seen e.object.value)) o.ends.ends.items)
    (with_waiting (g.W.Sink.seen o.file.sink) o.file.waiting) o.counts in
    let by = passed_by c.args.passing.now in
    let seen = g.S.Source.seen in
    let whole = (seen c.args.source.now).left in
    let faults = (seen c.args.source.now).faults in
    let between = (seen c.start.new.source).faults in
    let faults' = (seen c.pass_records.new.source).faults in
    let left = left_for c.start.new.window (g.S.Source.seen c.start.new.source).left in
    let head = c.in_ok-head.head in
    let before = at c.args.outlets.now in
    let after = at c.pass_records.new.outlets in
    let why = c.in_err-cut.field-0.0 in
    let Kind = IsSentFrom by.setup by.state by.round (StandsBehind head left) in
    let Other = IsSentFrom by.setup by.state by.round (StandsInFile whole) in
    let Sends = StopsSending by.names by.capture Kind before after in
    err-out c.from_residual-in_err-cut.result why _ _ c.from_residual-in_err-cut.ensures.1
    (stops-as (but-sending (capture_causes whole faults faults' Sends) (StopsSending by.names by.capture Other before after)
    (λ w is. stop-wider by.names by.capture Kind Other before after w (sent-file by.setup by.state by.round whole left head c.in_ok-head.ensures.head) is)) why
    (stops-as (capture-records whole left head faults between faults' Sends c.in_ok-head.ensures.head c.in_ok-head.ensures.faults) why c.in_err-cut.ensures.passed))
