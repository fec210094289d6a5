use Rattle.std.proofs.Common.{ap, arith, length}
use Rattle.spin_c.proofs.Opening.{all_there}
use Rattle.spin_c.proofs.renewing.close_whole.Goals as goal

pub close_into-requires-clause-own : goal.close_into-requires-clause-own
close_into-requires-clause-own g c =
    let there = all_there c.args.lane c.requires.well c.requires.home in rw c.in-Ok.ensures.ok (rw c.take_apart-seats.ensures.seats there.all.own)

pub close_into-requires-clause-seats : goal.close_into-requires-clause-seats
close_into-requires-clause-seats g c =
    let there = all_there c.args.lane c.requires.well c.requires.home in
    rw c.in-Ok.ensures.ok (rw c.take_apart-seats.ensures.seats (λ k seat within. (there.all.seats_are k seat within).0))

pub close_into-requires-clause-all : goal.close_into-requires-clause-all
close_into-requires-clause-all g c =
    let there = all_there c.args.lane c.requires.well c.requires.home in rw c.in-Ok.ensures.ok (rw c.take_apart-seats.ensures.seats there.all.all)

pub close_into-requires-clause-order : goal.close_into-requires-clause-order
close_into-requires-clause-order g c =
    let there = all_there c.args.lane c.requires.well c.requires.home in rw c.take_apart-seats.ensures.seats there.all.order

pub close_into-requires-clause-room : goal.close_into-requires-clause-room
close_into-requires-clause-room g c =
    let there = all_there c.args.lane c.requires.well c.requires.home in
    omega (arith, ap length c.take_apart-seats.ensures.seats, there.all.all, there.count, c.requires.room)

pub returns-in-Ok-clause-ok : goal.returns-in-Ok-clause-ok
returns-in-Ok-clause-ok g c = (
  record {
    clean = rw c.in-Ok.ensures.ok at (rw c.take_apart-seats.ensures.seats at c.close_into.ensures.clean);
    legal = rw c.in-Ok.ensures.ok at (rw c.take_apart-seats.ensures.seats at c.close_into.ensures.legal);
  },
  c.close_into.ensures.rows.1,
)
