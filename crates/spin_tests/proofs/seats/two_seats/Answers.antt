use Rattle.std.proofs.Common.{◌≡◌, subst}
use Rattle.std.specs.Prelude.{All}
use Rattle.std.proofs.lemmas.List.Elements.{All-head, All-tail}
use Rattle.spin_table.specs.SetupOf.{data_of}
use Rattle.spin_seat.specs.Seats.{IsSeatOf}
use Rattle.spin_tests.proofs.seats.two_seats.Goals as goal

pub returns-clause-sincere : goal.returns-clause-sincere
returns-clause-sincere g c = rw c.in_ok-hub.ensures.setup c.in_ok-setup.ensures

pub returns-clause-seat_a : goal.returns-clause-seat_a
returns-clause-seat_a g c =
    let P = IsSeatOf (data_of c.in_ok-hub.hub.setup) in
    let all : All P c.in_ok-hub.seats = rw c.in_ok-hub.ensures.setup c.in_ok-hub.ensures.seats in
    All-head P c.in-Some.a _ (subst (All P) c.in-Some.ensures all)

pub returns-clause-seat_b : goal.returns-clause-seat_b
returns-clause-seat_b g c =
    let P = IsSeatOf (data_of c.in_ok-hub.hub.setup) in
    let all : All P c.in_ok-hub.seats = rw c.in_ok-hub.ensures.setup c.in_ok-hub.ensures.seats in
    All-head P c.in-Some-take_first.b _ (subst (All P) c.in-Some-take_first.ensures (All-tail P c.in-Some.a _ (subst (All P) c.in-Some.ensures all)))
