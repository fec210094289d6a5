use Rattle.std.proofs.Common.{rules, sym, subst}
use Rattle.spin_table.specs.SetupOf.{data_of}
use Rattle.spin_seat.specs.RenewedHubs.{AreAllSeats}
use Rattle.spin_driver.proofs.hubs.renew.Goals as goal

pub returns-in_ok-tell_renewal-in-Ok-clause-all : goal.returns-in_ok-tell_renewal-in-Ok-clause-all
returns-in_ok-tell_renewal-in-Ok-clause-all g c =
    let all : AreAllSeats (data_of c.in-Ok.field-0.hub.setup) c.in-Ok.field-0.hub.log c.in-Ok.field-0.seats = rw c.in-Ok.ensures.setup c.in-Ok.ensures.all in
    search (rules, all)

pub returns-in_ok-tell-in-Err-clause-all : goal.returns-in_ok-tell-in-Err-clause-all
returns-in_ok-tell-in-Err-clause-all g c =
    let all : AreAllSeats (data_of c.in-Err.field-0.hub.setup) c.in-Err.field-0.hub.log c.in-Err.field-0.seats = rw c.in-Err.ensures.setup c.in-Err.ensures.all in
    search (rules, all)
