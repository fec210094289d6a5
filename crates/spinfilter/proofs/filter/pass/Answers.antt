use Rattle.std.proofs.Common.{map, refl, sym, subst, arith}
use Rattle.spin_endpoint.specs.Inner.View.{view_of}
use Rattle.spin_frames.specs.Written.{with_waiting}
use Rattle.spin_script.specs.Scripts.{script_seen}
use Rattle.spin_filter.specs.Sending.{outlets_at}
use Rattle.spin_filter.specs.declared.stop.Stop.{Stop}
use Rattle.spin_filter.specs.Filters.{IsFiltered, StopsFilter}
use Rattle.spin_filter.proofs.Stopped.{err-out}
use Rattle.spinfilter.specs.Calls.{StopsPassing}
use Rattle.spinfilter.proofs.Passings.{flushes, as-asked, passed-whole, stops-after}
use Rattle.spinfilter.proofs.filter.pass.Goals as goal

pub returns-in_err-put_header-clause-passed : goal.returns-in_err-put_header-clause-passed
returns-in_err-put_header-clause-passed g c =
    let at = λ (o : _). outlets_at (map (view_of (λ e. (goal.Endpoint-dyn g (e.object.vtable, e.object.value)).seen e.object.value)) o.ends.ends.items)
    (with_waiting (g.W.Sink.seen o.file.sink) o.file.waiting) o.counts in
    let shelf = g.F.Shelf.seen c.args.shelf.now in
    let why = c.in_err-put_header.field-0.0 in
    let header = c.in_err-put_header.ensures in
    err-out c.from_residual.result why _ _ c.from_residual.ensures.1
    (subst (λ (w : Stop). StopsPassing (script_seen c.args.script.now) c.args.asked.now shelf shelf (at c.args.outlets.now) (at (record c.args.outlets.now { file = c.put_header.new.file })) w) (sym header.0) header.1)

pub returns-in-Ok-flush-clause-passed : goal.returns-in-Ok-flush-clause-passed
returns-in-Ok-flush-clause-passed g c =
    let at = λ (o : _). outlets_at (map (view_of (λ e. (goal.Endpoint-dyn g (e.object.vtable, e.object.value)).seen e.object.value)) o.ends.ends.items)
    (with_waiting (g.W.Sink.seen o.file.sink) o.file.waiting) o.counts in
    let passed = c.filter_captures.new.outlets in
    let script = script_seen c.args.script.now in
    let asked = c.args.asked.now in
    let files = (g.F.Shelf.seen c.args.shelf.now).files in
    let headed = at (record c.args.outlets.now { file = c.put_header.new.file }) in
    let whole = as-asked (λ number captures. IsFiltered script number files captures headed (at passed) c.in-Ok.filtered) asked script.endpoints c.as_slice.result.now c.writer_of-capture.result
    c.as_slice-captures.result.now c.as_slice.ensures c.writer_of-capture.ensures c.as_slice-captures.ensures.value c.in-Ok.ensures.filtered in
    let flushed = flushes (at passed).ends passed.counts (g.W.Sink.seen passed.file.sink) (g.W.Sink.seen c.flush.new.self.sink) passed.file.waiting c.flush.new.self.waiting c.in-Ok-flush.ensures.taken
    c.in-Ok-flush.ensures.empty c.in-Ok-flush.ensures.cause in
    passed-whole script asked files (at c.args.outlets.now) headed (at passed) _ c.in-Ok.filtered (record { ends = refl; header = c.in_ok-put_header.ensures }) flushed whole

pub returns-in-Err-flush-clause-passed : goal.returns-in-Err-flush-clause-passed
returns-in-Err-flush-clause-passed g c = omega (arith, c.in-Err-flush.ensures.cause, c.in-Ok.ensures.filtered.still, c.in_ok-put_header.ensures.still)

pub returns-in-Err-clause-passed : goal.returns-in-Err-clause-passed
returns-in-Err-clause-passed g c =
    let at = λ (o : _). outlets_at (map (view_of (λ e. (goal.Endpoint-dyn g (e.object.vtable, e.object.value)).seen e.object.value)) o.ends.ends.items)
    (with_waiting (g.W.Sink.seen o.file.sink) o.file.waiting) o.counts in
    let stopped = c.filter_captures.new.outlets in
    let script = script_seen c.args.script.now in
    let asked = c.args.asked.now in
    let shelf = g.F.Shelf.seen c.args.shelf.now in
    let shelf' = g.F.Shelf.seen c.filter_captures.new.shelf in
    let headed = at (record c.args.outlets.now { file = c.put_header.new.file }) in
    let stops = as-asked (λ number captures. StopsFilter script number captures shelf shelf' headed (at stopped) c.in-Err.stop) asked script.endpoints c.as_slice.result.now c.writer_of-capture.result
    c.as_slice-captures.result.now c.as_slice.ensures c.writer_of-capture.ensures c.as_slice-captures.ensures.value c.in-Err.ensures.filtered in
    stops-after script asked shelf shelf' (at c.args.outlets.now) headed (at stopped) (at (record stopped { file = c.settle.new.file })) c.in-Err.stop
    (record { ends = refl; header = c.in_ok-put_header.ensures }) (record { ends = refl; faults = c.settle.ensures }) stops
