use Rattle.spin_c.proofs.moving.move_of.Goals as goal

pub returns : goal.returns
returns c = record { told = c.move_on-told.result; moves = c.move_on-told.ensures; number_is = c.tell.ensures.number; answer_is = c.tell.ensures.answer }
