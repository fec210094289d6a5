use Rattle.spin_c.proofs.moving.next_step.Goals as goal

pub returns : goal.returns
returns c = record { told = c.next_on-told.result; moves = c.next_on-told.ensures; number_is = c.number_of.ensures; step_is = c.step_of.ensures }
