use Rattle.std.specs.Arc.{arc_value}
use Rattle.spin_table.specs.SetupOf.{data_of}
use Rattle.spin_seat.proofs.SeatInvariants.{seats_more}
use Rattle.spin_seat.proofs.seats.seats_of.Goals as goal

pub loop-pen-preserved : goal.loop-pen-preserved
loop-pen-preserved g c =
    seats_more (data_of c.args._setup.now) (arc_value c.args.first.now) c.loop-pen.seats c.push.new.self c.loop-pen.pens c.take_first.new.self c.args.pens c.in-Some.pen
    (arc_value c.in_ok-first.first) (arc_value c.in_ok-version.version) c.loop-pen.invariant c.in-Some.ensures c.in_ok-push.ensures.ok c.in_ok-first.ensures c.in_ok-version.ensures
    c.requires.fits c.requires.sound c.requires.given
