use Rattle.std.proofs.Common.{ℕ, List, map, subst}
use Rattle.spin_endpoint.specs.Inner.View.{view_of}
use Rattle.spin_table.specs.SetupOf.{data_of}
use Rattle.spin_script.specs.Scripts.{script_seen}
use Rattle.spin_run.specs.Inner.Outside.{seen_by}
use Rattle.spin_run.specs.Inner.Steps.{setting, script_in, RunsScript, ResultCounts}
use Rattle.spin_run.proofs.OrderlySegments.{orderly_in}
use Rattle.spin_run.proofs.script.run_segments.Goals as goal

pub run_over-requires-clause-sincere : goal.run_over-requires-clause-sincere
run_over-requires-clause-sincere g c κs lives = c.requires.sincere

pub run_over-requires-clause-valid : goal.run_over-requires-clause-valid
run_over-requires-clause-valid g c κs lives = c.requires.valid

pub run_over-requires-clause-commands : goal.run_over-requires-clause-commands
run_over-requires-clause-commands g c κs lives = c.requires.commands

pub run_over-requires-clause-orderly : goal.run_over-requires-clause-orderly
run_over-requires-clause-orderly g c κs lives =
    orderly_in (script_seen c.args.script) (setting (data_of c.args.script.setup) c.args.script.lanes c.as_slice-names.result.now)
    (λ i. setting (data_of c.args.script.setup) c.args.script.lanes (c.as_slice-names.ensures i)) c.requires.orderly

pub run_over-requires-clause-fresh : goal.run_over-requires-clause-fresh
run_over-requires-clause-fresh g c κs lives = c.requires.fresh

pub returns : goal.returns
returns g c =
    let all = λ (ends : _). map (view_of (λ e. (goal.Endpoint-dyn g (e.object.vtable, e.object.value)).seen e.object.value)) ends.ends.items in
    let source = g.S.Source.seen in
    let sink = g.T.Telling.seen in
    let counts = g.T.Telling.counts in
    let script = script_seen c.args.script in
    let before = seen_by source sink all c.args.outside.now in
    let after = seen_by source sink all c.run_over.new.outside in
    record {
      end =
          subst (λ (names : List (List ℕ)). RunsScript (script_in (setting script.setup script.lanes names) script.segments script.version) c.args.outside.now.capture.now before
          (counts c.args.outside.now.out.now) c.run_over.new.outside.capture.now after (counts c.run_over.new.outside.out.now) c.run_over.result)
          c.as_slice-names.ensures (c.run_over.ensures.end script.version);
      keep = c.run_over.ensures.keep;
      same = c.run_over.ensures.same;
      counts = subst (λ (names : List (List ℕ)). ResultCounts names before after c.run_over.result) c.as_slice-names.ensures c.run_over.ensures.counts;
    }
