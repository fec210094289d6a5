use Rattle.spin_table.specs.SetupOf.{data_of}
use Rattle.spin_seat.specs.Seats.{AreFrom}
use Rattle.spin_c.proofs.Opening.{known_from, laid_well}
use Rattle.spin_c.proofs.renewing.renew_apart.Goals as goal

pub returns-in-Ok-clause-well : goal.returns-in-Ok-clause-well
returns-in-Ok-clause-well g c =
    let all = c.in-Ok.ensures.all in
    let seats = c.in-Ok.renewed.seats in
    let from : AreFrom all.first seats = λ k seat within. (all.seats_are k seat within).1 in
    laid_well c.renew.new.self _ _ _ seats c.in-Ok.renewed.tickets all.first (c.in-Ok.ensures.well all.first from) (rw c.renew.ensures.setup all) from
    c.in-Ok.ensures.tickets.2 c.lay-laid.ensures.laid c.lay-laid.ensures.room

pub returns-in-Ok-clause-renews : goal.returns-in-Ok-clause-renews
returns-in-Ok-clause-renews g c = record {
  rows = c.in-Ok.renewed.rows;
  new_seats = c.in-Ok.renewed.seats;
  tickets = c.in-Ok.renewed.tickets;
  laid = c.lay-laid.ensures.laid;
  setup = c.renew.ensures.setup;
  pens = c.in-Ok.ensures.pens;
  renewal = c.in-Ok.ensures.renewed;
  history = record { clean = c.in-Ok.ensures.clean; legal = c.in-Ok.ensures.legal };
}

pub returns-in-Err-clause-well : goal.returns-in-Err-clause-well
returns-in-Err-clause-well g c =
    let p = c.args.party.now in
    let first = c.requires.well.0 in
    let seats = c.in-Err.stayed.seats in
    let from = known_from (data_of p.hub.setup) first c.args.apart.seats seats c.in-Err.ensures.more c.requires.well.2 in
    rw c.in-Err.ensures.log (laid_well p _ _ _ seats c.args.apart.tickets first c.requires.well.1 (rw c.in-Err.ensures.log at c.in-Err.ensures.all) from
    c.requires.tickets c.lay-laid-in-Err.ensures.laid c.lay-laid-in-Err.ensures.room)
