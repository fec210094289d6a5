use Rattle.spin_c.proofs.handing.let_go.Goals as goal

pub give-requires : goal.give-requires
give-requires g c =
    let away = c.args.lane.away in
    (away.seat.base, away.seat.pen.lane, rw c.deref.ensures c.requires.0.party, rw c.deref.ensures c.requires.0.own)
