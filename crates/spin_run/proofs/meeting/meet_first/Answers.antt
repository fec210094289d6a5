use Rattle.std.proofs.Common.{◌<◌, length, arith, refl, sym, ◌∙◌}
use Rattle.spin_table.specs.SetupOf.{data_of}
use Rattle.spin_run.proofs.LaneMeetings.{both_of_hub, meets, seated}
use Rattle.spin_run.proofs.ShortRuns.{stops_joined}
use Rattle.spin_run.proofs.meeting.meet_first.Goals as goal

pub meet-requires-clause-first : goal.meet-requires-clause-first
meet-requires-clause-first g c =
    let split = c.split_at_mut-left.ensures in
    let inside = c.requires.inside in
    let both =
    both_of_hub (data_of c.args.hub.now.setup) c.requires.seats.0 c.args.hub.now.log.id c.args.lanes.now c.split_at_mut-left.result.0.now c.split_at_mut-left.result.1.now c.args.k
    c.index-left-0.result c.index-right-0.result split.value split.front_len c.requires.after (omega (arith, inside, split.back_len)) c.requires.seats.1 in
    both.1.1.1 ∙ sym both.0.1.1

pub returns-clause-met : goal.returns-clause-met
returns-clause-met g c =
    let split = c.split_at_mut-left.ensures in
    let after = c.requires.after in
    let inside = c.requires.inside in
    let d = data_of c.args.hub.now.setup in
    let left = c.split_at_mut-left.result.0.now in
    let right = c.split_at_mut-left.result.1.now in
    let x = c.index-left-0.result in
    let y = c.index-right-0.result in
    let some : 0 < length right = omega (arith, inside, split.back_len) in
    meets d c.args.lanes.now left right c.args.k x y c.meet.new.a c.meet.new.b c.meet.result split.value split.front_len after some
    (c.meet.ensures.seat_a, c.meet.ensures.first.0) (c.meet.ensures.seat_b, c.meet.ensures.first.1)
    c.meet.ensures.a c.meet.ensures.b c.meet.ensures.whole c.meet.ensures.reads c.meet.ensures.pens

pub returns-clause-stops : goal.returns-clause-stops
returns-clause-stops g c =
    let split = c.split_at_mut-left.ensures in
    let left = c.split_at_mut-left.result.0.now in
    let right = c.split_at_mut-left.result.1.now in
    let x = c.index-left-0.result in
    let y = c.index-right-0.result in
    stops_joined c.args.lanes.now left right x y (seated left x c.meet.new.a) (seated right y c.meet.new.b) split.value refl refl
