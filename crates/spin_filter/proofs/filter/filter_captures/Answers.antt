use Rattle.std.proofs.Common.{◌≡◌, ℕ, List, map, refl, sym, ap, subst, ◌∙◌, inl, inr}
use Rattle.spin_endpoint.specs.Inner.View.{view_of}
use Rattle.spin_frames.specs.Written.{with_waiting}
use Rattle.spin_script.specs.declared.script.Line.{Line}
use Rattle.spin_script.specs.Scripts.{script_seen}
use Rattle.spin_script.specs.Soundness.{lines_in}
use Rattle.spin_filter.specs.declared.commands.Commanded.{Commanded}
use Rattle.spin_filter.specs.Commands.{commands_of}
use Rattle.spin_filter.specs.Filters.{IsFiltered}
use Rattle.spin_filter.specs.Inner.Giving.{IsCommanded}
use Rattle.spin_filter.specs.Rounds.{round_of}
use Rattle.spin_filter.specs.Sending.{outlets_at, StopsSending}
use Rattle.spin_filter.specs.Unsuited.{StopsScript}
use Rattle.spin_filter.specs.Stops.{IsSentFrom, StandsIn, IsSentBy, StopsPass, pass_causes}
use Rattle.spin_filter.proofs.CapturesFound.{FindsCaptures}
use Rattle.spin_filter.proofs.Doings.{PassedBy, stop-here}
use Rattle.spin_filter.proofs.Filterings.{SuitsFilter, HasBegun, scripted, unsuited-lines, for-filter, filtered, sent-by}
use Rattle.spin_filter.proofs.Stopped.{err-out, stops-as, but-sending}
use Rattle.spin_filter.proofs.filter.filter_captures.Goals as goal

pub returns-in_err-round-clause-filtered : goal.returns-in_err-round-clause-filtered
returns-in_err-round-clause-filtered g c =
    let why = c.in_err-round.field-0.0 in
    err-out c.from_residual-in_err-round.result why _ _ c.from_residual-in_err-round.ensures.1
    (inl (refl, refl, unsuited-lines (script_seen c.args.script.now) why c.in_ok-lines.ensures.one (subst (λ (ls : List Line). StopsScript ls why) c.in_ok-lines.ensures.lines c.in_err-round.ensures.stop)))

pub returns-clause-filtered : goal.returns-clause-filtered
returns-clause-filtered g c =
    let at = λ (o : _). outlets_at (map (view_of (λ e. (goal.Endpoint-dyn g (e.object.vtable, e.object.value)).seen e.object.value)) o.ends.ends.items)
    (with_waiting (g.W.Sink.seen o.file.sink) o.file.waiting) o.counts in
    let commanded : Commanded = c.in_ok-version.field-0 in
    let script = script_seen c.args.script.now in
    let lines = c.in_ok-lines.lines.now in
    let files = (g.F.Shelf.seen c.args.shelf.now).files in
    let captures = c.args.captures.now in
    let before = at c.args.outlets.now in
    let after = at c.pass_captures.new.outlets in
    let counts = c.in_ok-outlets.field-0 in
    let names = c.as_slice.result.now in
    let round = c.as_slice-2.result.now in
    let suits : SuitsFilter script lines c.in_ok-round.round.items = record {
      lines_are = c.in_ok-lines.ensures.lines;
      round_is = c.in_ok-round.ensures.round;
      one = c.in_ok-lines.ensures.one;
      suited = c.in_ok-round.ensures.suited;
      some = c.in_ok-round.ensures.some;
    } in
    let by = scripted script commanded.version.state c.args.capture in
    let turns : round ≡ round_of (lines_in script.segments) = c.as_slice-2.ensures.value ∙ c.in_ok-round.ensures.round ∙ ap round_of c.in_ok-lines.ensures.lines in
    let same : by names round ≡ by script.endpoints (round_of (lines_in script.segments)) = ap (λ ns. by ns round) c.as_slice.ensures ∙ ap (λ r. by script.endpoints r) turns in
    let passed = subst (λ (q : PassedBy). FindsCaptures q files captures c.in_ok-cut.cut (record before { counts = counts }) after) same c.in_ok-cut.ensures.passed in
    let begun : HasBegun script commanded counts = record {
      given = subst (λ (ls : List Line). IsCommanded script.setup (commands_of ls) commanded) c.in_ok-lines.ensures.lines c.in_ok-version.ensures.given;
      zero = c.in_ok-outlets.ensures;
    } in
    subst (λ (n : ℕ). IsFiltered script c.args.capture files captures before after (record { accepted = n; refused = commanded.refused; cut = c.in_ok-cut.cut })) (sym c.place.ensures)
    (filtered script c.args.capture files captures before after commanded counts c.in_ok-cut.cut (for-filter script lines c.in_ok-round.round.items suits) begun passed)

pub returns-in_err-cut-clause-filtered : goal.returns-in_err-cut-clause-filtered
returns-in_err-cut-clause-filtered g c =
    let at = λ (o : _). outlets_at (map (view_of (λ e. (goal.Endpoint-dyn g (e.object.vtable, e.object.value)).seen e.object.value)) o.ends.ends.items)
    (with_waiting (g.W.Sink.seen o.file.sink) o.file.waiting) o.counts in
    let script = script_seen c.args.script.now in
    let lines = c.in_ok-lines.lines.now in
    let why = c.in_err-cut.field-0.0 in
    let commanded : Commanded = c.in_ok-version.field-0 in
    let seen = g.F.Shelf.seen in
    let shelf = seen c.args.shelf.now in
    let captures = c.args.captures.now in
    let noted = at (record c.args.outlets.now { counts = c.in_ok-outlets.field-0 }) in
    let before = at c.args.outlets.now in
    let after = at c.pass_captures.new.outlets in
    let names = c.as_slice.result.now in
    let round = c.as_slice-2.result.now in
    let suits : SuitsFilter script lines c.in_ok-round.round.items = record {
      lines_are = c.in_ok-lines.ensures.lines;
      round_is = c.in_ok-round.ensures.round;
      one = c.in_ok-lines.ensures.one;
      suited = c.in_ok-round.ensures.suited;
      some = c.in_ok-round.ensures.some;
    } in
    let Own = IsSentFrom script.setup commanded.version.state round (StandsIn shelf.files captures) in
    let Kind = IsSentBy script shelf.files captures in
    let within = sent-by script shelf.files captures commanded lines round c.in_ok-lines.ensures.lines (c.as_slice-2.ensures.value ∙ c.in_ok-round.ensures.round) c.in_ok-version.ensures.given in
    let stops = subst (λ (ns : List (List ℕ)). StopsPass ns c.args.capture Own captures shelf (seen c.pass_captures.new.shelf) noted after why) c.as_slice.ensures c.in_err-cut.ensures.passed in
    err-out c.from_residual-in_err-cut.result why _ _ c.from_residual-in_err-cut.ensures.1
    (inr (
      for-filter script lines c.in_ok-round.round.items suits,
      stops-as (but-sending (pass_causes captures shelf (seen c.pass_captures.new.shelf) (StopsSending script.endpoints c.args.capture Own noted after)) (StopsSending script.endpoints c.args.capture Kind before after)
          (λ w is. stop-here script.endpoints c.args.capture Own Kind before noted after w within refl refl is)) why stops,
    ))
