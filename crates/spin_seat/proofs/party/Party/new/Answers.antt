use Rattle.std.proofs.Common.{◌∙◌, sym}
use Rattle.spin_table.specs.SetupOf.{data_of}
use Rattle.spin_table.specs.States.{start_of}
use Rattle.spin_seat.proofs.HomeSeats.{first_of, key_from}
use Rattle.spin_seat.proofs.party.Party.new.Goals as goal

pub returns-clause-well : goal.returns-clause-well
returns-clause-well g c =
    let d = data_of c.args.setup in
    let one = first_of d (start_of d) c.in_ok-hub.seats c.get.result.now c.in_ok-hub.ensures.seats c.get.ensures in
    record {
      key = key_from _ _ _ _ _ c.in_ok-homes.ensures.key one;
      slots = c.in_ok-homes.ensures.tickets.0 ∙ sym c.in_ok-hub.ensures.lanes;
    }
