use Rattle.spin_grammar.proofs.NumberRanges.{reads_binding}
use Rattle.spin_grammar.proofs.tokens.binding_from.Goals as goal

pub returns-clause-opens : goal.returns-clause-opens
returns-clause-opens c = λ more. reads_binding c.args.low more c.read_number.result _ _ c.read_number.ensures.reads
