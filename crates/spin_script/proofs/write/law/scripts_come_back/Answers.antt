use Rattle.spin_script.proofs.CanonicalRoundTrip.{come_back}
use Rattle.spin_script.proofs.write.law.scripts_come_back.Goals as goal

pub returns : goal.returns
returns c = come_back
