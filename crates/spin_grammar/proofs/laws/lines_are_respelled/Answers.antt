use Rattle.spin_grammar.proofs.CanonicalSpelling.{line_respelled}
use Rattle.spin_grammar.proofs.laws.lines_are_respelled.Goals as goal

pub returns : goal.returns
returns c = line_respelled
