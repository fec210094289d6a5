use Rattle.std.proofs.Common.{◌<◌, length, arith}
use Rattle.spin_table.specs.SetupOf.{data_of}
use Rattle.spin_driver.proofs.HubSeats.{still_set}
use Rattle.spin_driver.proofs.hubs.ask_lane.Goals as goal

pub ask-requires-clause-log : goal.ask-requires-clause-log
ask-requires-clause-log g c =
    let inside : c.args.lane < length c.args.seats.now = omega (arith, c.if-lane-seats.false) in
    c.requires.all.own c.args.lane c.index-seats-lane.result inside

pub ask-requires-clause-seat : goal.ask-requires-clause-seat
ask-requires-clause-seat g c =
    let inside : c.args.lane < length c.args.seats.now = omega (arith, c.if-lane-seats.false) in
    (c.requires.all.seats_are c.args.lane c.index-seats-lane.result inside).0

pub returns : goal.returns
returns g c =
    let inside : c.args.lane < length c.args.seats.now = omega (arith, c.if-lane-seats.false) in
    let said = c.ask.ensures in
    still_set (data_of c.args.hub.now.setup) c.args.hub.now.log c.args.seats.now c.args.lane c.index-seats-lane.result c.ask.new.seat inside said.same said.first said.seat c.requires.all
