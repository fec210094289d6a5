use Rattle.spin_script.proofs.OutcomeUniqueness.{one_outcome}
use Rattle.spin_script.proofs.laws.outcomes_are_one.Goals as goal

pub returns : goal.returns
returns c = one_outcome
