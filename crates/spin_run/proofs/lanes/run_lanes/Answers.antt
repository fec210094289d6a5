use Rattle.std.proofs.Common.{rules, ◌<◌, List, length, get_or, sym, ap, ◌∙◌, subst}
use Rattle.spin_report.specs.declared.entry.Entry.{Entry}
use Rattle.spin_run.specs.declared.lane.Lane.{Lane}
use Rattle.spin_run.specs.Lanes.{HasRunLane}
use Rattle.spin_table.specs.SetupOf.{data_of}
use Rattle.spin_report.specs.Segments.{asked_in}
use Rattle.spin_run.proofs.GivenEntries.{threads_have_run}
use denote.Param.Send.{param_send}
use Rattle.spin_run.specs.contracts.lanes.run_lanes.dyn-1 as one
use Rattle.spin_run.specs.contracts.lanes.run_lanes.dyn-2 as two
use Rattle.spin_run.specs.contracts.lanes.run_lanes.dyn-3 as three
use Rattle.spin_run.proofs.ThreadCrossing.{borrows_cross, lane_send}
use Rattle.spin_run.proofs.lanes.run_lanes.Goals as goal

pub for_each_mut-requires-sync-F : goal.for_each_mut-requires-sync-F
for_each_mut-requires-sync-F g c κs within =
    let R = g.row.R in let G = g.row.G in
    let lent = borrows_cross (one.slots R G) (two.slots R G)
    (three.slots R G) g.dyn-1 g.dyn-2 g.dyn-3 _ κs.1.1.1.1.1.1.0 κs.1.1.1.1.1.1.1.0 κs.1.1.1.1.1.1.1.1.0 κs.1.1.1.1.1.1.1.1.1.0 κs.1.1.1.1.1.1.1.1.1.1.0 c.type_bounds.sync-G in
    record { shared = lent.shared }

pub for_each_mut-requires-send-T : goal.for_each_mut-requires-send-T
for_each_mut-requires-send-T g c κs within =
    let given = param_send 1 _ lane_send in
    record { owned = given.owned; leaving = given.leaving }

pub returns : goal.returns
returns g c =
    threads_have_run (data_of c.args.hub.now.setup) (asked_in c.args.segment.now.lines c.args.frames.now) c.args.lanes.now
    c.lanes.inside.items.items c.for_each_mut.new.s c.lanes.inside.items.len c.lanes.view_is c.lanes.inside.items.ok.0 (search rules) (λ k lane lt.
    let value = c.as_mut_slice.ensures.value in
    let e = (c.for_each_mut.ensures k lane (subst (λ (l : List Lane). k < length l) (sym value) lt)).1 in
    subst (λ (x : Lane × Lane). (entries : List Entry) × HasRunLane (data_of c.args.hub.now.setup) (asked_in c.args.segment.now.lines c.args.frames.now) x.0 x.1 entries)
    (λ i. ((e.argument_is ∙ ap (λ (l : List Lane). get_or l k lane) value) i, e.left i)) e.call)
