use Rattle.spin_script.proofs.WrittenDeeds.{deeds_back}
use Rattle.spin_script.proofs.write.law.deeds_are_back.Goals as goal

pub returns : goal.returns
returns c = deeds_back
