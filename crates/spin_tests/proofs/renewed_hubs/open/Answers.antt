use Rattle.std.proofs.Common.{arith}
use Rattle.std.specs.Prelude.{All}
use Rattle.spin_table.specs.SetupOf.{data_of}
use Rattle.spin_seat.specs.Seats.{IsSeatOf}
use Rattle.spin_seat.proofs.SeatPairs.{new_are_all, both_taken}
use Rattle.spin_tests.proofs.renewed_hubs.open.Goals as goal

pub returns-clause-sincere : goal.returns-clause-sincere
returns-clause-sincere g c = rw c.in_ok-hub.ensures.setup c.in_ok-setup.ensures.sincere

pub returns-clause-all : goal.returns-clause-all
returns-clause-all g c =
    let d = data_of c.in_ok-hub.hub.setup in
    let log = c.in_ok-hub.hub.log in
    let are : All (IsSeatOf d) c.in_ok-hub.seats = rw c.in_ok-hub.ensures.setup c.in_ok-hub.ensures.seats in
    let all = new_are_all d log c.in_ok-hub.seats 2 (omega arith) c.in_ok-hub.ensures.lanes c.in_ok-hub.ensures.own c.in_ok-hub.ensures.all c.in_ok-hub.ensures.order are in
    both_taken d log c.in_ok-hub.seats _ _ c.in-Some.a c.in-Some-take_first.b c.in_ok-hub.ensures.lanes all c.in-Some.ensures c.in-Some-take_first.ensures
