use Rattle.spin_grammar.proofs.NumberRanges.{reads_bindings}
use Rattle.spin_grammar.proofs.tokens.bindings_count.Goals as goal

pub returns-clause-opens : goal.returns-clause-opens
returns-clause-opens c = reads_bindings c.read_number.result _ _ c.read_number.ensures.reads
