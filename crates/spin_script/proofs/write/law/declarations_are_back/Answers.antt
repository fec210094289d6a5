use Rattle.spin_script.proofs.WrittenDeclarations.{declarations_back}
use Rattle.spin_script.proofs.write.law.declarations_are_back.Goals as goal

pub returns : goal.returns
returns c = declarations_back
