use Rattle.spin_grammar.proofs.LineUniqueness.{one_line}
use Rattle.spin_grammar.proofs.laws.lines_are_one.Goals as goal

pub returns : goal.returns
returns c = one_line
