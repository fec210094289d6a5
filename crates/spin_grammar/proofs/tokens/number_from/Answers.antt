use Rattle.spin_grammar.proofs.NumberRanges.{reads_number}
use Rattle.spin_grammar.proofs.tokens.number_from.Goals as goal

pub returns-clause-gives : goal.returns-clause-gives
returns-clause-gives c = reads_number c.args.low c.args.high c.read_number.result _ _ c.read_number.ensures.reads
