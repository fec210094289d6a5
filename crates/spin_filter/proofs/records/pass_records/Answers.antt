use Rattle.std.proofs.Common.{◌≡◌, ◌+◌, ℕ, Err, map, length, refl, sym, ap, subst, ◌∙◌}
use Rattle.std.proofs.lemmas.List.{length-map}
use Rattle.spin_endpoint.specs.Inner.View.{view_of}
use Rattle.spin_pcap.specs.Passing.{left_for, FaultByCount}
use Rattle.spin_frames.specs.Written.{with_waiting}
use Rattle.spin_filter.specs.declared.stop.Stop.{Stop}
use Rattle.spin_filter.specs.Inner.Sends.{IsOf}
use Rattle.spin_filter.specs.Inner.Stopping.{StandsBehind, StopsRecords, record_causes}
use Rattle.spin_filter.specs.Counting.{Sending}
use Rattle.spin_filter.specs.Passing.{Passed}
use Rattle.spin_filter.specs.Sending.{outlets_at, StopsSending}
use Rattle.spin_filter.specs.Stops.{stop_at, IsSentAt, IsSentFrom}
use Rattle.spin_filter.proofs.Doings.{passed_by, stop-behind}
use Rattle.spin_filter.proofs.Passings.{one-as, sent-as, records-none, records-more, records-end, records-cut, record-stands}
use Rattle.spin_filter.proofs.RecordsRead.{FindsAt, finds-as}
use Rattle.spin_filter.proofs.Stopped.{stops-reading, stops-sending, stop-found, stop-many, err-out}
use Rattle.spin_filter.proofs.records.pass_records.Goals as goal

pub loop-number-init : goal.loop-number-init
loop-number-init g c = record {
  passed = records-none (passed_by c.args.passing.now) c.args.head _ _;
  faults = refl;
  keep = refl;
}

pub returns-in-Ok-End-clause-passed : goal.returns-in-Ok-End-clause-passed
returns-in-Ok-End-clause-passed g c =
    records-end (passed_by c.args.passing.now) c.args.head _ c.loop-number.number _ (g.S.Source.seen c.find_record.new.source).left c.find_record.new.window _ _ c.loop-number.invariant.passed
    (finds-as c.args.head.order c.find_record.ensures.passed.left c.in-Ok-End.field-0-is c.in-Ok-End.ensures.finds)

pub returns-in-Ok-Cut-clause-passed : goal.returns-in-Ok-Cut-clause-passed
returns-in-Ok-Cut-clause-passed g c =
    records-cut (passed_by c.args.passing.now) c.args.head _ c.loop-number.number _ (g.S.Source.seen c.find_record.new.source).left c.find_record.new.window c.in-Ok-Cut.count _ _ c.loop-number.invariant.passed
    (finds-as c.args.head.order c.find_record.ensures.passed.left c.in-Ok-Cut.field-0-is c.in-Ok-Cut.ensures.finds)

pub loop-number-preserved : goal.loop-number-preserved
loop-number-preserved g c =
    let by = passed_by c.args.passing.now in
    let held = c.find_record.new.window in
    let behind = (g.S.Source.seen c.find_record.new.source).left in
    record {
      passed = rw c.skip.ensures.skipped
          (records-more by c.args.head _ c.loop-number.number _ behind held c.in-Ok-Record.size _ _ _ c.loop-number.invariant.passed
          (finds-as c.args.head.order c.find_record.ensures.passed.left c.in-Ok-Record.field-0-is c.in-Ok-Record.ensures.finds)
          (one-as by _ _ _ _ _ _ c.front-taken.ensures c.event_at-event.ensures c.in_ok-pass_record.ensures));
      faults = c.in-Ok-Record.ensures.cause ∙ c.loop-number.invariant.faults;
      keep = c.find_record.ensures.passed.keep ∙ c.loop-number.invariant.keep;
    }

pub returns-in-Err-clause-passed : goal.returns-in-Err-clause-passed
returns-in-Err-clause-passed g c =
    let at = λ (o : _). outlets_at (map (view_of (λ e. (goal.Endpoint-dyn g (e.object.vtable, e.object.value)).seen e.object.value)) o.ends.ends.items)
    (with_waiting (g.W.Sink.seen o.file.sink) o.file.waiting) o.counts in
    let seen = g.S.Source.seen in
    let by = passed_by c.args.passing.now in
    let head = c.args.head in
    let start = left_for c.args.window.now (seen c.args.source.now).left in
    let faults = (seen c.args.source.now).faults in
    let faults' = (seen c.find_record.new.source).faults in
    let Sends = StopsSending by.names by.capture (IsSentFrom by.setup by.state by.round (StandsBehind head start)) (at c.args.outlets.now) (at c.loop-number.outlets) in
    let h = c.loop-number.invariant.passed in
    let packets = map (λ (p : Passed). p.taken.packet) h.passed in
    let size : length packets ≡ c.loop-number.number = length-map h.passed (λ (p : Passed). p.taken.packet) ∙ h.size in
    let same : c.at.result ≡ stop_at (length packets + 1) c.in-Err.fault = c.at.ensures ∙ ap (λ n. stop_at (n + 1) c.in-Err.fault) (sym size) in
    let finds : FindsAt head.order (left_for c.loop-number.window (seen c.loop-number.source).left) (Err c.in-Err.fault) c.find_record.new.window (seen c.find_record.new.source).left =
    record { kept = c.find_record.ensures.passed.left; finds = c.in-Err.ensures.finds } in
    let rose = subst (λ (n : ℕ). FaultByCount c.in-Err.fault n faults') c.loop-number.invariant.faults c.in-Err.ensures.cause in
    rw same (stops-reading (record_causes head.order start faults faults' Sends) tt (stop_at (length packets + 1) c.in-Err.fault) (stop-found head.order start _ _ packets _ faults faults' c.in-Err.fault h.read finds rose))

pub returns-clause-passed : goal.returns-clause-passed
returns-clause-passed g c =
    let at = λ (o : _). outlets_at (map (view_of (λ e. (goal.Endpoint-dyn g (e.object.vtable, e.object.value)).seen e.object.value)) o.ends.ends.items)
    (with_waiting (g.W.Sink.seen o.file.sink) o.file.waiting) o.counts in
    let seen = g.S.Source.seen in
    let Kind = IsSentFrom (passed_by c.args.passing.now).setup c.args.passing.now.version.now.state c.args.passing.now.round.now (StandsBehind c.args.head (left_for c.args.window.now (g.S.Source.seen c.args.source.now).left)) in
    subst (λ (why : Stop). StopsRecords c.args.passing.now.names.now c.args.passing.now.capture Kind c.args.head.order (left_for c.args.window.now (seen c.args.source.now).left) (seen c.args.source.now).faults
    (seen c.loop-number.source).faults (at c.args.outlets.now) (at c.loop-number.outlets) why) (sym c.at-2.ensures)
    (stop-many c.args.head.order (left_for c.args.window.now (seen c.args.source.now).left))

pub returns-in_err-pass_record-clause-passed : goal.returns-in_err-pass_record-clause-passed
returns-in_err-pass_record-clause-passed g c =
    let at = λ (o : _). outlets_at (map (view_of (λ e. (goal.Endpoint-dyn g (e.object.vtable, e.object.value)).seen e.object.value)) o.ends.ends.items)
    (with_waiting (g.W.Sink.seen o.file.sink) o.file.waiting) o.counts in
    let seen = g.S.Source.seen in
    let by = passed_by c.args.passing.now in
    let head = c.args.head in
    let start = left_for c.args.window.now (seen c.args.source.now).left in
    let faults = (seen c.args.source.now).faults in
    let faults' = (seen c.find_record.new.source).faults in
    let Own = IsOf c.front-taken.result (IsSentAt by.setup by.state c.event_at-event.result) in
    let Kind = IsSentFrom by.setup by.state by.round (StandsBehind head start) in
    let why = c.in_err-pass_record.field-0.0 in
    let now = at c.loop-number.outlets in
    let after = at c.pass_record.new.outlets in
    let h = c.loop-number.invariant.passed in
    let finds = finds-as head.order c.find_record.ensures.passed.left c.in-Ok-Record.field-0-is c.in-Ok-Record.ensures.finds in
    let within = λ (send : Sending) (is : Own send).
    record-stands by head start c.loop-number.number _ _ c.find_record.new.window c.in-Ok-Record.size _ _ h finds send (sent-as by.setup by.state _ _ _ _ c.front-taken.ensures c.event_at-event.ensures send is) in
    err-out c.from_residual.result why _ _ c.from_residual.ensures.1
    (stops-sending by.names by.capture Own now after (record_causes head.order start faults faults' (StopsSending by.names by.capture Kind (at c.args.outlets.now) after))
    (λ w is. stop-behind by.names by.capture Own Kind _ (at c.args.outlets.now) now after w within h.done is) why c.in_err-pass_record.ensures)
