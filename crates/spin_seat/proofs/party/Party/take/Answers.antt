use Rattle.spin_table.specs.SetupOf.{data_of}
use Rattle.spin_seat.proofs.HomeSeats.{known}
use Rattle.spin_seat.proofs.party.Party.take.Goals as goal

pub returns : goal.returns
returns g c = λ first well. (
  c.in_ok-ticket.ensures.ticket,
  known _ c.args.self.now.hub.log.id (data_of c.args.self.now.hub.setup) first c.args.lane c.in_ok-ticket.seat well.key c.in_ok-ticket.ensures.fits,
)
