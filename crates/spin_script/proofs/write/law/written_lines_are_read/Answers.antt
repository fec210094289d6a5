use Rattle.spin_script.proofs.WrittenLines.{lines_read}
use Rattle.spin_script.proofs.write.law.written_lines_are_read.Goals as goal

pub returns : goal.returns
returns c = λ n version ls t o v h e small. lines_read n version ls t o v h e small
