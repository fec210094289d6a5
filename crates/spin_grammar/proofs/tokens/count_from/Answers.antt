use Rattle.spin_grammar.proofs.NumberRanges.{reads_count}
use Rattle.spin_grammar.proofs.tokens.count_from.Goals as goal

pub returns-clause-opens : goal.returns-clause-opens
returns-clause-opens c = λ want. reads_count c.args.low c.args.high want c.read_number.result _ _ c.read_number.ensures.reads
