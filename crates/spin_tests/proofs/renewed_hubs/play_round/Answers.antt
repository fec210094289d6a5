use Rattle.std.proofs.Common.{arith, refl}
use Rattle.spin_table.specs.SetupOf.{data_of}
use Rattle.spin_seat.proofs.SeatPairs.{both_still}
use Rattle.spin_tests.proofs.renewed_hubs.play_round.Goals as goal

pub say_all-requires-clause-log : goal.say_all-requires-clause-log
say_all-requires-clause-log g c = c.requires.all.own 0 c.args.course.a (omega arith)

pub say_all-requires-clause-seat : goal.say_all-requires-clause-seat
say_all-requires-clause-seat g c = (c.requires.all.seats_are 0 c.args.course.a (omega arith)).0

pub say_all-requires-clause-lane : goal.say_all-requires-clause-lane
say_all-requires-clause-lane g c = c.requires.all.order.0

pub renew-requires-clause-all : goal.renew-requires-clause-all
renew-requires-clause-all g c =
    let d = data_of c.args.course.hub.setup in
    let b = c.args.course.b in
    both_still d c.args.course.hub.log c.args.course.a b _ b c.requires.all
    c.in_ok-is_said.ensures.same c.in_ok-is_said.ensures.first c.in_ok-is_said.ensures.seat
    (refl, refl, refl) refl (c.requires.all.seats_are 1 b (omega arith)).0
