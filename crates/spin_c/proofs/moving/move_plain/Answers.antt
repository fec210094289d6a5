use Rattle.spin_c.proofs.moving.move_plain.Goals as goal

pub returns : goal.returns
returns c = record { told = c.move_on-told.result; moves = c.move_on-told.ensures; number_is = c.number_of.ensures }
