use Rattle.std.proofs.Common.{ap, arith, inr, length, refl}
use Rattle.spin_c.proofs.Opening.{all_there}
use Rattle.spin_c.proofs.Untold.{unrenewed_told}
use Rattle.spin_c.proofs.renewing.renew_whole.Goals as goal

pub renew_apart-laid-requires-clause-sincere : goal.renew_apart-laid-requires-clause-sincere
renew_apart-laid-requires-clause-sincere g c = rw c.in-Some.ensures.value c.requires.sincere

pub renew_apart-laid-requires-clause-well : goal.renew_apart-laid-requires-clause-well
renew_apart-laid-requires-clause-well g c =
    let there = all_there c.args.lane c.requires.well c.requires.home in
    (c.args.lane.away.seat.base, rw c.in-Some.ensures.value c.requires.well.0.party, rw c.take_apart.ensures.seats there.from)

pub renew_apart-laid-requires-clause-all : goal.renew_apart-laid-requires-clause-all
renew_apart-laid-requires-clause-all g c =
    let there = all_there c.args.lane c.requires.well c.requires.home in rw c.in-Some.ensures.value (rw c.take_apart.ensures.seats there.all)

pub renew_apart-laid-requires-clause-tickets : goal.renew_apart-laid-requires-clause-tickets
renew_apart-laid-requires-clause-tickets g c =
    let there = all_there c.args.lane c.requires.well c.requires.home in rw c.in-Some.ensures.value (rw c.take_apart.ensures.tickets there.tickets)

pub renew_apart-laid-requires-clause-places : goal.renew_apart-laid-requires-clause-places
renew_apart-laid-requires-clause-places g c =
    let there = all_there c.args.lane c.requires.well c.requires.home in
    omega (arith, ap length c.take_apart.ensures.seats, there.all.all, there.count, c.take_apart.ensures.places)

pub returns-in-Ok-clause-renews : goal.returns-in-Ok-clause-renews
returns-in-Ok-clause-renews g c = inr (c.requires.home, (rw c.in-Some.ensures.value at (rw c.take_apart.ensures.seats at (rw c.in-Ok.is at c.renew_apart-laid.ensures.renews)), c.forget.ensures, refl))

pub returns-in-Err-clause-renews : goal.returns-in-Err-clause-renews
returns-in-Err-clause-renews g c =
    let l = c.args.lane in
    let laid = c.renew_apart-laid.result.0 in
    let after = record l { party = record l.party { value = c.renew_apart-laid.new.party }; away = laid.away; waiting = laid.waiting } in
    rw c.fault_told.ensures (inr (
      c.requires.home,
      unrenewed_told l after c.in-Err.fault
          (rw c.in-Some.ensures.value at (rw c.take_apart.ensures.seats at (rw c.in-Err.is at c.renew_apart-laid.ensures.renews)), refl, refl, refl),
    ))

pub returns-in-Ok-clause-well : goal.returns-in-Ok-clause-well
returns-in-Ok-clause-well g c = (c.renew_apart-laid.ensures.well, rw c.forget.ensures tt)

pub returns-in-Err-clause-well : goal.returns-in-Err-clause-well
returns-in-Err-clause-well g c =
    let stayed = rw c.in-Some.ensures.value at (rw c.in-Err.is at c.renew_apart-laid.ensures.renews) in
    (c.renew_apart-laid.ensures.well, rw stayed.party c.requires.well.1)
