use Rattle.spin_c.proofs.spin_command.Goals as goal

pub returns : goal.returns
returns c = rw c.row_from.ensures at c.ask_of.ensures
