use Rattle.std.proofs.Common.{◌<◌, length, arith}
use Rattle.spin_table.specs.SetupOf.{data_of}
use Rattle.spin_driver.proofs.HubSeats.{still_set}
use Rattle.spin_driver.proofs.hubs.raise_lane.Goals as goal

pub raise-requires-clause-log : goal.raise-requires-clause-log
raise-requires-clause-log g c =
    let inside : c.args.lane < length c.args.seats.now = omega (arith, c.if-lane-seats.false) in
    c.requires.all.own c.args.lane c.index-seats-lane.result inside

pub raise-requires-clause-seat : goal.raise-requires-clause-seat
raise-requires-clause-seat g c =
    let inside : c.args.lane < length c.args.seats.now = omega (arith, c.if-lane-seats.false) in
    (c.requires.all.seats_are c.args.lane c.index-seats-lane.result inside).0

pub returns : goal.returns
returns g c =
    let inside : c.args.lane < length c.args.seats.now = omega (arith, c.if-lane-seats.false) in
    let said = c.raise.ensures in
    still_set (data_of c.args.hub.now.setup) c.args.hub.now.log c.args.seats.now c.args.lane c.index-seats-lane.result c.raise.new.seat inside said.same said.first said.seat c.requires.all
