use Rattle.spin_code.proofs.Requirements.{is_met}
use Rattle.spin_code.proofs.requirement.requirements_are_met.Goals as goal

pub returns : goal.returns
returns c = is_met
