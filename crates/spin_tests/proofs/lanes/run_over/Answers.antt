use Rattle.std.proofs.Common.{◌∙◌, ℕ, subst, sym, arith}
use Rattle.spin_table.specs.SetupOf.{data_of}
use Rattle.spin_report.specs.Segments.{asked_in}
use Rattle.spin_run.specs.Segments.{AreAtRest, IsFitSegment}
use Rattle.spin_run.proofs.NewLanes.{are_new}
use Rattle.spin_run.proofs.SegmentLemmas.{rest_of_ready, still_of_hub, still_in_order}
use Rattle.spin_tests.proofs.lanes.run_over.Goals as goal

pub run_lanes-requires-clause-ready : goal.run_lanes-requires-clause-ready
run_lanes-requires-clause-ready g c κs within =
    let d = data_of c.args.hub.now.setup in let id = c.args.hub.now.log.id in let lanes = c.in_ok-lanes.lanes in let made = c.in_ok-lanes.ensures in
    let new = are_new d c.requires.seats.0 id 2 c.args.seats lanes (omega arith) (omega arith) c.requires.pens c.requires.seats.1 made.seats made.fresh in
    subst (λ (n : ℕ). AreAtRest d id n lanes) (sym c.requires.two) (rest_of_ready d id 2 lanes new.ready)

pub run_lanes-requires-clause-lines : goal.run_lanes-requires-clause-lines
run_lanes-requires-clause-lines g c κs within =
    let d = data_of c.args.hub.now.setup in let id = c.args.hub.now.log.id in let lanes = c.in_ok-lanes.lanes in let made = c.in_ok-lanes.ensures in
    let new = are_new d c.requires.seats.0 id 2 c.args.seats lanes (omega arith) (omega arith) c.requires.pens c.requires.seats.1 made.seats made.fresh in
    subst (λ (n : ℕ). IsFitSegment n c.args.segment.now.lines) (sym new.ready.all) c.requires.lines

pub returns : goal.returns
returns g c =
    let d = data_of c.args.hub.now.setup in let id = c.args.hub.now.log.id in let lanes = c.in_ok-lanes.lanes in let made = c.in_ok-lanes.ensures in
    let new = are_new d c.requires.seats.0 id 2 c.args.seats lanes (omega arith) (omega arith) c.requires.pens c.requires.seats.1 made.seats made.fresh in
    let after = c.run_lanes.new.lanes in
    let asked = asked_in c.args.segment.now.lines c.new-frames.result in
    let given = c.run_lanes.ensures.0 in
    let have = c.run_lanes.ensures.1 in
    record {
      two = have.count ∙ new.ready.all;
      own = still_of_hub d id 2 asked lanes after given (rest_of_ready d id 2 lanes new.ready) have;
      order = still_in_order d asked lanes after given new.ready.order have;
    }
