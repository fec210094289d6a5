use Rattle.std.proofs.Common.{refl, sym, subst, arith}
use Rattle.spin_table.specs.SetupOf.{data_of}
use Rattle.spin_seat.specs.RenewedHubs.{AreAllSeats}
use Rattle.spin_seat.proofs.SeatRenewals.{taken}
use Rattle.spin_driver.proofs.hubs.play_round.Goals as goal

pub returns : goal.returns
returns g c =
    let d = data_of c.args.hub.now.setup in
    let before = c.requires.all.all in
    let after = c.play.ensures.all in
    let len = c.as_mut_slice.ensures.len in
    subst (AreAllSeats d c.args.hub.now.log) (sym (taken c.args.seats.len _ c.play.new.seats _ refl (omega (arith, before, after, len)))) c.play.ensures
