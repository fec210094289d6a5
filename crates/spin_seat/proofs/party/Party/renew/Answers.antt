use Rattle.std.proofs.Common.{◌∙◌, sym}
use Rattle.spin_seat.proofs.party.Party.renew.Goals as goal

pub returns-in-Ok-clause-well : goal.returns-in-Ok-clause-well
returns-in-Ok-clause-well g c = λ first from. record {
  key = rw c.renew_in.ensures.setup (c.in-Ok.ensures.key first from);
  slots = c.in-Ok.ensures.homes.0 ∙ sym c.in-Ok.ensures.log;
}
