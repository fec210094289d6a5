use Rattle.spin_later.proofs.TaskUniqueness.{taken_or_left}
use Rattle.spin_later.proofs.laws.tasks_are_taken_once.Goals as goal

pub returns : goal.returns
returns c = taken_or_left
