use Rattle.spin_log.proofs.PenFronts.{front_is_log}
use Rattle.spin_log.proofs.laws.front_is_log.Goals as goal

pub returns : goal.returns
returns c = front_is_log
