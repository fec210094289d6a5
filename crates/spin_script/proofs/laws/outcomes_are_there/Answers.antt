use Rattle.spin_script.proofs.OutcomeExistence.{some_outcome}
use Rattle.spin_script.proofs.laws.outcomes_are_there.Goals as goal

pub returns : goal.returns
returns c = some_outcome
