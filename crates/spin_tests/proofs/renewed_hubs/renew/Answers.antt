use Rattle.std.proofs.Common.{rules, ◌≡◌, ◌∷◌, [], List, sym, subst, arith}
use Rattle.spin_table.specs.SetupOf.{data_of}
use Rattle.spin_seat.specs.Seats.{SeatValue}
use Rattle.spin_seat.specs.RenewedHubs.{AreAllSeats}
use Rattle.spin_seat.proofs.SeatPairs.{both_taken}
use Rattle.spin_tests.proofs.renewed_hubs.renew.Goals as goal

pub renewed-requires-clause-all : goal.renewed-requires-clause-all
renewed-requires-clause-all g c =
    let both : ◌≡◌ {A = List SeatValue} c.from_vec-seats.result (c.args.course.a ∷ c.args.course.b ∷ []) = search rules in
    subst (AreAllSeats (data_of c.args.course.hub.setup) c.args.course.hub.log) (sym both) c.requires.all

pub returns-clause-all : goal.returns-clause-all
returns-clause-all g c =
    let d = data_of c.args.course.hub.setup in
    let two : c.in-Ok.renewal.hub.log.lanes ≡ 2 = omega (arith, c.in-Ok.ensures.lanes, c.requires.all.all) in
    both_taken d c.in-Ok.renewal.hub.log c.in-Ok.renewal.seats _ _ c.in-Some.a c.in-Some-take_first.b two c.in-Ok.ensures.all c.in-Some.ensures c.in-Some-take_first.ensures
