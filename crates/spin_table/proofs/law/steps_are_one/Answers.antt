use Rattle.spin_table.proofs.StepUniqueness.{one_step}
use Rattle.spin_table.proofs.law.steps_are_one.Goals as goal

pub returns : goal.returns
returns c = one_step
