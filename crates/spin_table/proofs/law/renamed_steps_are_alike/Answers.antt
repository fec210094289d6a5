use Rattle.spin_table.proofs.RenamedSteps.{renamed_steps}
use Rattle.spin_table.proofs.law.renamed_steps_are_alike.Goals as goal

pub returns : goal.returns
returns c = renamed_steps
