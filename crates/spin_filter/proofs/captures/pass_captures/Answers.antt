use Rattle.std.proofs.Common.{List, ℕ, Option, map, refl, arith, subst, ◌∙◌}
use Rattle.spin_endpoint.specs.Inner.View.{view_of}
use Rattle.spin_outside.specs.Files.{File}
use Rattle.spin_frames.specs.Written.{with_waiting}
use Rattle.spin_filter.specs.Sending.{outlets_at, StopsSending}
use Rattle.spin_filter.specs.Inner.Stopping.{StandsNamed}
use Rattle.spin_filter.specs.Stops.{IsSentFrom, StandsIn, pass_causes}
use Rattle.spin_filter.proofs.CapturesFound.{FindsCapture, FindsCaptures, captures-none, captures-more, captures-all, names-more}
use Rattle.spin_filter.proofs.Doings.{passed_by, stop-behind}
use Rattle.spin_filter.proofs.Stopped.{err-out, stops-as, but-sending, pass-named, sent-among}
use Rattle.spin_filter.proofs.captures.pass_captures.Goals as goal

pub loop-name-init : goal.loop-name-init
loop-name-init g c = record {
  passed = captures-none (passed_by c.args.passing.now) (g.F.Shelf.seen c.args.shelf.now).files _;
  stood = record { faults = refl; absences = refl };
  files = refl;
}

pub loop-name-preserved : goal.loop-name-preserved
loop-name-preserved g c =
    let at = λ (o : _). outlets_at (map (view_of (λ e. (goal.Endpoint-dyn g (e.object.vtable, e.object.value)).seen e.object.value)) o.ends.ends.items)
    (with_waiting (g.W.Sink.seen o.file.sink) o.file.waiting) o.counts in
    let by = passed_by c.args.passing.now in
    let files = (g.F.Shelf.seen c.args.shelf.now).files in
    let name = c.name-item.result in
    let before = at c.args.outlets.now in
    let now = at c.loop-name.outlets in
    let after = at c.pass_named.new.outlets in
    let found = subst (λ (fs : Option (List File)). FindsCapture by fs name c.in_ok-more.more now after) c.loop-name.invariant.files c.in_ok-more.ensures.passed in
    record {
      passed = subst (λ (ns : List (List ℕ)). FindsCaptures by files ns c.more_by-cut.result before after) (names-more c.args.captures.now c.loop-name.name-index name (omega arith) c.name-item.is)
          (captures-more by files _ name c.loop-name.cut c.in_ok-more.more c.more_by-cut.result before now after c.loop-name.invariant.passed c.more_by-cut.ensures found);
      stood = record {
        faults = c.in_ok-more.ensures.stood.faults ∙ c.loop-name.invariant.stood.faults;
        absences = c.in_ok-more.ensures.stood.absences ∙ c.loop-name.invariant.stood.absences;
      };
      files = c.in_ok-more.ensures.files ∙ c.loop-name.invariant.files;
    }

pub returns-clause-passed : goal.returns-clause-passed
returns-clause-passed g c =
    captures-all (passed_by c.args.passing.now) (g.F.Shelf.seen c.args.shelf.now).files c.args.captures.now c.loop-name.name-index c.loop-name.cut _ _ (omega arith) c.loop-name.invariant.passed

pub returns-in_err-more-clause-passed : goal.returns-in_err-more-clause-passed
returns-in_err-more-clause-passed g c =
    let at = λ (o : _). outlets_at (map (view_of (λ e. (goal.Endpoint-dyn g (e.object.vtable, e.object.value)).seen e.object.value)) o.ends.ends.items)
    (with_waiting (g.W.Sink.seen o.file.sink) o.file.waiting) o.counts in
    let by = passed_by c.args.passing.now in
    let seen = g.F.Shelf.seen in
    let shelf = seen c.args.shelf.now in
    let between = seen c.loop-name.shelf in
    let captures = c.args.captures.now in
    let i = c.loop-name.name-index in
    let name = c.name-item.result in
    let before = at c.args.outlets.now in
    let now = at c.loop-name.outlets in
    let after = at c.pass_named.new.outlets in
    let why = c.in_err-more.field-0.0 in
    let Own = IsSentFrom by.setup by.state by.round (StandsNamed between.files name) in
    let Kind = IsSentFrom by.setup by.state by.round (StandsIn shelf.files captures) in
    let among = sent-among by.setup by.state by.round shelf.files between.files captures i name (omega arith) c.name-item.is c.loop-name.invariant.files in
    let Sends = StopsSending by.names by.capture Own now after in
    err-out c.from_residual-in_err-more.result why _ _ c.from_residual-in_err-more.ensures.1
    (stops-as (but-sending (pass_causes captures shelf (seen c.pass_named.new.shelf) Sends) (StopsSending by.names by.capture Kind before after)
    (λ w is. stop-behind by.names by.capture Own Kind _ before now after w among c.loop-name.invariant.passed.4 is)) why
    (stops-as (pass-named captures i name shelf between (seen c.pass_named.new.shelf) Sends (omega arith) c.name-item.is c.loop-name.invariant.files c.loop-name.invariant.stood) why c.in_err-more.ensures.passed))
