use Rattle.spin_later.proofs.TaskUniqueness.{as_sent}
use Rattle.spin_later.proofs.laws.tasks_are_as_sent.Goals as goal

pub returns : goal.returns
returns c = as_sent
