use Rattle.std.proofs.Common.{refl}
use Rattle.spin_table.specs.SetupOf.{data_of}
use Rattle.spin_table.specs.States.{start_of}
use Rattle.spin_seat.proofs.SeatPairs.{new_are_all}
use Rattle.spin_c.proofs.Opening.{laid_well}
use Rattle.spin_c.proofs.turn.start.Goals as goal

pub returns-clause-started : goal.returns-clause-started
returns-clause-started g c =
    let made = c.in_ok-party.ensures in
    rw c.in_ok-party-2.ensures.ok (record {
      seats = c.in_ok-party.seats;
      tickets = c.in_ok-party.tickets;
      laid = c.lay-away.ensures.laid;
      pens = made.pens;
      first = rw made.setup (λ k seat within. (made.seats k seat within).1);
      fresh = (c.new-3.ensures, c.new-4.ensures, refl);
    })

pub returns-clause-well : goal.returns-clause-well
returns-clause-well g c =
    let made = c.in_ok-party.ensures in
    let party = c.in_ok-party.party in
    let hub = party.hub in
    let seats = c.in_ok-party.seats in
    let all = new_are_all (data_of hub.setup) hub.log seats c.args.lanes c.requires.some made.lanes made.own made.all made.order (rw made.setup made.seats) in
    rw c.in_ok-party-2.ensures.ok (
      laid_well party _ _ _ seats c.in_ok-party.tickets (start_of (data_of c.args.setup)) made.well all
          (λ k seat within. (made.seats k seat within).1) made.tickets.2 c.lay-away.ensures.laid c.lay-away.ensures.room,
      rw c.new-3.ensures tt,
    )
