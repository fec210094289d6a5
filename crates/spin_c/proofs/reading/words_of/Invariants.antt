use Rattle.std.proofs.Common.{◌≡◌, ◌++◌, length}
use Rattle.spin_grammar.specs.Words.{words}
use Rattle.spin_c.proofs.reading.words_of.Given as goal

abbrev pub invariant-loop-word : goal.invariant-loop-word
invariant-loop-word l = l.texts ++ l.left ≡ words l.line

abbrev pub decreases-loop-word : goal.decreases-loop-word
decreases-loop-word l = length l.left
