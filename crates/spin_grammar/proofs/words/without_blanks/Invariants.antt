use Rattle.std.proofs.Common.{◌≡◌, length}
use Rattle.spin_grammar.specs.Words.{words}
use Rattle.spin_grammar.proofs.words.without_blanks.Given as goal

abbrev pub invariant-loop-first : goal.invariant-loop-first
invariant-loop-first l = words l.rest ≡ words l.line

abbrev pub decreases-loop-first : goal.decreases-loop-first
decreases-loop-first l = length l.rest
