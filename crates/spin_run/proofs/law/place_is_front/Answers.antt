use Rattle.spin_run.proofs.ReadyLanes.{place_is_front}
use Rattle.spin_run.proofs.law.place_is_front.Goals as goal

pub returns : goal.returns
returns c = place_is_front
