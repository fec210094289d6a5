use Rattle.spin_table.specs.SetupOf.{data_of}
use Rattle.spin_run.proofs.NewLanes.{are_new}
use Rattle.spin_run.proofs.lanes.Lanes.of_seats.Goals as goal

pub returns-clause-ready : goal.returns-clause-ready
returns-clause-ready g c =
    let made = c.in_ok-each_seat.ensures in
    (are_new (data_of c.args._hub.now.setup) c.requires.seats.0 c.args._hub.now.log.id c.args._hub.now.log.lanes c.args.seats
    c.in_ok-each_seat.field-0.items c.requires.some c.requires.few c.requires.pens c.requires.seats.1 made.seats made.fresh).ready

pub returns-clause-first : goal.returns-clause-first
returns-clause-first g c = λ first seats.
    let made = c.in_ok-each_seat.ensures in
    (are_new (data_of c.args._hub.now.setup) first c.args._hub.now.log.id c.args._hub.now.log.lanes c.args.seats
    c.in_ok-each_seat.field-0.items c.requires.some c.requires.few c.requires.pens seats made.seats made.fresh).start
