use Rattle.spin_script.proofs.WritableScripts.{rewritten}
use Rattle.spin_script.proofs.write.law.scripts_can_be_written.Goals as goal

pub returns : goal.returns
returns c = rewritten
