use Rattle.std.proofs.Common.{rules, ◌≡◌, ◌∷◌, [], List, sym, subst}
use Rattle.spin.specs.SetupOf.{data_of}
use Rattle.spin.specs.Seats.{SeatValue}
use Rattle.spin.specs.RenewedHubs.{AreAllSeats}
use Rattle.host_renewal.proofs.renew.Goals as goal

pub renew-requires-clause-all : goal.renew-requires-clause-all
renew-requires-clause-all g c =
    let both : ◌≡◌ {A = List SeatValue} c.from_vec-seats.result (c.args.a ∷ c.args.b ∷ []) = search rules in
    subst (AreAllSeats (data_of c.args.hub.setup) c.args.hub.log) (sym both) c.requires.all
