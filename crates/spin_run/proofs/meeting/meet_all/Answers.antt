use Rattle.std.proofs.Common.{arith}
use Rattle.std.proofs.lemmas.Result.{on_ok_weaker}
use Rattle.spin_table.specs.SetupOf.{data_of}
use Rattle.spin_run.proofs.LaneMeetings.{settled_hubs, still_of_hubs, have_met}
use Rattle.spin_run.proofs.meeting.meet_all.Goals as goal

pub settle_first-requires : goal.settle_first-requires
settle_first-requires g c = record { sincere = c.requires.sincere; some = c.requires.some; seats = c.requires.seats }

pub meet_each-requires : goal.meet_each-requires
meet_each-requires g c =
    let some = c.requires.some in
    let settled = c.in_ok-settle_first.ensures.settled in
    record {
      sincere = c.requires.sincere;
      some = omega (arith, some, settled.len);
      seats = settled_hubs (data_of c.args.hub.now.setup) c.args.hub.now.log.id c.args.lanes.now c.settle_first.new.lanes c.requires.seats settled;
      first = λ l. (settled.first l).1;
    }

pub meet_each-requires-2 : goal.meet_each-requires-2
meet_each-requires-2 g c =
    let d = data_of c.args.hub.now.setup in
    let log = c.args.hub.now.log.id in
    let some = c.requires.some in
    let settled = c.in_ok-settle_first.ensures.settled in
    let round = c.in_ok-meet_each.ensures.round in
    record {
      sincere = c.requires.sincere;
      some = omega (arith, some, settled.len, round.len);
      seats = still_of_hubs d log c.settle_first.new.lanes c.meet_each.new.lanes round.len (settled_hubs d log c.args.lanes.now c.settle_first.new.lanes c.requires.seats settled) round.read;
      first = λ l. round.settled 0 l (omega (arith, some, settled.len));
    }

pub returns-clause-met : goal.returns-clause-met
returns-clause-met g c =
    let d = data_of c.args.hub.now.setup in
    on_ok_weaker c.meet_each-2.result
    (have_met d c.args.hub.now.log.id c.args.lanes.now c.settle_first.new.lanes c.meet_each.new.lanes
    c.meet_each-2.new.lanes c.requires.some c.requires.seats c.in_ok-settle_first.ensures.settled c.in_ok-meet_each.ensures.round)
    c.meet_each-2.ensures.round
