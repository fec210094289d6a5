use Rattle.spin_c.proofs.beginning.begin_on.Goals as goal

pub begin_in-raise-requires-clause-sound : goal.begin_in-raise-requires-clause-sound
begin_in-raise-requires-clause-sound g c =
    let shared = c.in-Ok-shares.ensures in
    rw c.setup-2.ensures (rw c.deref-2.ensures (rw shared.0 (rw shared.1 c.pin.ensures.well.0.own.1.is_seat.0.sound)))

pub returns-clause-raising_well : goal.returns-clause-raising_well
returns-clause-raising_well g c = rw c.deref-2.ensures at (rw c.setup-2.ensures at c.begin_in-raise.ensures.well)
