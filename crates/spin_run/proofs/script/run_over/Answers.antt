use Rattle.std.proofs.Common.{◌≡◌, length, map, refl, sym, ap, subst, ◌∙◌}
use Rattle.std.specs.Prelude.{All}
use Rattle.std.proofs.lemmas.Result.{err_from_is_err_and}
use Rattle.spin_endpoint.specs.Inner.View.{view_of}
use Rattle.spin_table.specs.States.{start_of}
use Rattle.spin_table.specs.SetupOf.{data_of}
use Rattle.spin_seat.specs.Places.{place_past}
use Rattle.spin_seat.specs.Seats.{IsSeatOf}
use Rattle.spin_run.specs.Ends.{seen}
use Rattle.spin_run.specs.Segments.{state_of}
use Rattle.spin_run.specs.Inner.Outside.{seen_by}
use Rattle.spin_run.specs.Inner.Steps.{moment, setting, script_in}
use Rattle.spin_run.proofs.OrderlySegments.{orderly_in}
use Rattle.spin_run.proofs.FaultCounts.{results_later}
use Rattle.spin_run.proofs.Left.{some_left}
use Rattle.spin_run.proofs.SegmentRuns.{ends_first, ends_empty, told_start, fresh_given, runs_script}
use Rattle.spin_run.proofs.script.run_over.Goals as goal

pub returns-in-Err : goal.returns-in-Err
returns-in-Err g c =
    let all = λ (ends : _). map (view_of (λ e. (goal.Endpoint-dyn g (e.object.vtable, e.object.value)).seen e.object.value)) ends.ends.items in
    let source = g.S.Source.seen c.args.outside.now.source.now in
    let ends = all c.args.outside.now.ends.now in
    let before = seen source (g.T.Telling.seen c.args.outside.now.out.now) ends in
    let after = seen source (g.T.Telling.seen c.begin.new.self) ends in
    let s = setting (data_of c.args.setup) c.args.lane_count c.args.names.now in
    let cut = c.in-Err.ensures.told in
    record {
      end = λ version. let some = some_left c.args.outside.now.capture.now source in
          (some.0, some.1, some.2, ends_first (script_in s c.args.segments.now version) c.args.outside.now.capture.now some.0 some.1 before after cut.0 refl refl cut.1 cut.2);
      keep = refl;
      same = record { capture = refl; source = refl; out = refl; ends = refl; within = c.in-Err.ensures.same };
      counts = (refl, c.in-Err.ensures.cause, refl);
    }

pub returns-in_err-hub : goal.returns-in_err-hub
returns-in_err-hub g c =
    let all = λ (ends : _). map (view_of (λ e. (goal.Endpoint-dyn g (e.object.vtable, e.object.value)).seen e.object.value)) ends.ends.items in
    let source = g.S.Source.seen c.args.outside.now.source.now in
    let ends = all c.args.outside.now.ends.now in
    let before = seen source (g.T.Telling.seen c.args.outside.now.out.now) ends in
    let after = seen source (g.T.Telling.seen c.begin.new.self) ends in
    let s = setting (data_of c.args.setup) c.args.lane_count c.args.names.now in
    let p = err_from_is_err_and c.from_residual.result c.from_residual.ensures.1 in
    rw (p.1, p.2) (record {
      end = λ version. let some = some_left c.args.outside.now.capture.now source in
          (some.0, some.1, some.2, ends_empty (script_in s c.args.segments.now version) c.args.outside.now.capture.now some.0 some.1 before after refl refl c.in_default.ensures.told);
      keep = refl;
      same = record { capture = refl; source = refl; out = refl; ends = refl; within = c.in_default.ensures.same };
      counts = (refl, c.in_default.ensures.cause, refl);
    })

pub returns-in_err-lanes : goal.returns-in_err-lanes
returns-in_err-lanes g c =
    let all = λ (ends : _). map (view_of (λ e. (goal.Endpoint-dyn g (e.object.vtable, e.object.value)).seen e.object.value)) ends.ends.items in
    let source = g.S.Source.seen c.args.outside.now.source.now in
    let ends = all c.args.outside.now.ends.now in
    let before = seen source (g.T.Telling.seen c.args.outside.now.out.now) ends in
    let after = seen source (g.T.Telling.seen c.begin.new.self) ends in
    let s = setting (data_of c.args.setup) c.args.lane_count c.args.names.now in
    let p = err_from_is_err_and c.from_residual-in_err-lanes.result c.from_residual-in_err-lanes.ensures.1 in
    rw (p.1, p.2) (record {
      end = λ version. let some = some_left c.args.outside.now.capture.now source in
          (some.0, some.1, some.2, ends_empty (script_in s c.args.segments.now version) c.args.outside.now.capture.now some.0 some.1 before after refl refl c.in_default.ensures.told);
      keep = refl;
      same = record { capture = refl; source = refl; out = refl; ends = refl; within = c.in_default.ensures.same };
      counts = (refl, c.in_default.ensures.cause, refl);
    })

pub of_seats-requires-clause-seats : goal.of_seats-requires-clause-seats
of_seats-requires-clause-seats g c =
    (start_of (data_of c.in_ok-hub.hub.setup), subst (λ st. All (IsSeatOf (data_of st)) c.in_ok-hub.seats) (sym c.in_ok-hub.ensures.setup) c.in_ok-hub.ensures.seats)

pub run_each-requires-clause-sincere : goal.run_each-requires-clause-sincere
run_each-requires-clause-sincere g c κs lives = rw c.in_ok-hub.ensures.setup c.requires.sincere

pub run_each-requires-clause-ready : goal.run_each-requires-clause-ready
run_each-requires-clause-ready g c κs lives = c.in_ok-lanes.ensures.ready

pub run_each-requires-clause-start : goal.run_each-requires-clause-start
run_each-requires-clause-start g c κs lives =
    let d = data_of c.in_ok-hub.hub.setup in
    let seats = subst (λ st. All (IsSeatOf (data_of st)) c.in_ok-hub.seats) (sym c.in_ok-hub.ensures.setup) c.in_ok-hub.ensures.seats in
    (λ i. place_past ((c.in_ok-lanes.ensures.first (start_of d) seats).0 i).place (length (c.in_ok-lanes.ensures.front i)))

pub run_each-requires-clause-valid : goal.run_each-requires-clause-valid
run_each-requires-clause-valid g c κs lives = c.requires.valid

pub run_each-requires-clause-commands : goal.run_each-requires-clause-commands
run_each-requires-clause-commands g c κs lives = c.requires.commands

pub run_each-requires-clause-orderly : goal.run_each-requires-clause-orderly
run_each-requires-clause-orderly g c κs lives =
    let lanes_are : length c.in_ok-lanes.lanes ≡ c.args.lane_count = c.in_ok-lanes.ensures.ready.all ∙ c.in_ok-hub.ensures.lanes in
    orderly_in (script_in (setting (data_of c.args.setup) c.args.lane_count c.args.names.now) c.args.segments.now 0)
    (setting (data_of c.in_ok-hub.hub.setup) (length c.in_ok-lanes.lanes) c.args.names.now)
    (λ i. setting (data_of (c.in_ok-hub.ensures.setup i)) (lanes_are i) c.args.names.now) c.requires.orderly

pub returns : goal.returns
returns g c =
    let all = λ (ends : _). map (view_of (λ e. (goal.Endpoint-dyn g (e.object.vtable, e.object.value)).seen e.object.value)) ends.ends.items in
    let source = g.S.Source.seen in
    let sink = g.T.Telling.seen in
    let counts = g.T.Telling.counts in
    let lanes = c.in_ok-lanes.lanes in
    let s = setting (data_of c.args.setup) c.args.lane_count c.args.names.now in
    let made = setting (data_of c.in_ok-hub.hub.setup) (length lanes) c.args.names.now in
    let before = seen_by source sink all c.args.outside.now in
    let now = moment (state_of (data_of c.in_ok-hub.hub.setup) lanes) c.args.outside.now.capture.now (source c.args.outside.now.source.now) (sink c.begin.new.self) (all c.args.outside.now.ends.now) in
    let after = seen_by source sink all c.run_each.new.outside in
    let lanes_are : length lanes ≡ c.args.lane_count = c.in_ok-lanes.ensures.ready.all ∙ c.in_ok-hub.ensures.lanes in
    let same : made ≡ s = λ i. setting (data_of (c.in_ok-hub.ensures.setup i)) (lanes_are i) c.args.names.now in
    let seats = subst (λ st. All (IsSeatOf (data_of st)) c.in_ok-hub.seats) (sym c.in_ok-hub.ensures.setup) c.in_ok-hub.ensures.seats in
    let start : state_of (data_of c.in_ok-hub.hub.setup) lanes ≡ start_of (data_of c.args.setup) =
    (c.in_ok-lanes.ensures.first (start_of (data_of c.in_ok-hub.hub.setup)) seats).1 ∙ ap (λ (st : _). start_of (data_of st)) c.in_ok-hub.ensures.setup in
    record {
      end = λ version.
          let script = script_in s c.args.segments.now version in
          runs_script script made c.args.outside.now.capture.now before now (counts c.args.outside.now.out.now)
          (counts c.begin.new.self) c.run_each.new.outside.capture.now after (counts c.run_each.new.outside.out.now) c.run_each.result same c.run_each.ensures.end
          (λ frames. told_start script c.args.outside.now.capture.now frames before now (counts c.args.outside.now.out.now) (counts c.begin.new.self) refl refl start refl
          (fresh_given c.args.outside.now.capture.now c.requires.fresh) c.in_default.ensures.told c.in_default.ensures.counts);
      keep = c.run_each.ensures.keep;
      same = record {
        capture = c.run_each.ensures.same.capture;
        source = c.run_each.ensures.same.source;
        out = c.run_each.ensures.same.out;
        ends = c.run_each.ensures.same.ends;
        within = c.run_each.ensures.same.within ∙ c.in_default.ensures.same;
      };
      counts = results_later c.args.names.now c.run_each.result before now.outside after refl c.in_default.ensures.cause refl c.run_each.ensures.counts;
    }
