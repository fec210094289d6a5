use Rattle.std.proofs.Common.{sym, subst}
use Rattle.std.specs.Prelude.{All}
use Rattle.spin_table.specs.SetupOf.{data_of}
use Rattle.spin_seat.specs.Seats.{IsSeatOf}
use Rattle.spin_seat.specs.RenewedHubs.{AreAllSeats}
use Rattle.spin_seat.proofs.SeatPairs.{new_are_all}
use Rattle.spin_driver.proofs.hubs.open.Goals as goal

pub returns-clause-sincere : goal.returns-clause-sincere
returns-clause-sincere g c = rw c.in_ok-hub.ensures.setup c.in_ok-setup.ensures.sincere

pub returns-clause-all : goal.returns-clause-all
returns-clause-all g c =
    let d = data_of c.in_ok-hub.hub.setup in
    let log = c.in_ok-hub.hub.log in
    let made = c.in_ok-hub.ensures in
    let are : All (IsSeatOf d) c.in_ok-hub.seats = rw made.setup made.seats in
    subst (AreAllSeats d log) (sym c.into_vec.ensures)
    (new_are_all d log c.in_ok-hub.seats c.args.lanes c.requires.some made.lanes made.own made.all made.order are)
