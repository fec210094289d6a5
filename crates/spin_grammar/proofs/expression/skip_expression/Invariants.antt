use Rattle.std.proofs.Common.{◌<◌, ◌≤◌, ◌+◌, ◌^◌, length}
use Rattle.spin_grammar.specs.Grammar.{Expression}
use Rattle.spin_grammar.specs.Forms.{expr_form}
use Rattle.spin_grammar.specs.Inner.Reading.{Regrows}
use Rattle.spin_grammar.proofs.expression.skip_expression.Given as goal

abbrev pub invariant-loop-wanted : goal.invariant-loop-wanted
invariant-loop-wanted l = record { room : l.wanted + length l.words < 2 ^ 64; falls : length l.words ≤ length l.fn.words; so_far : Regrows expr_form Expression 1 l.wanted l.fn.words l.words }

abbrev pub decreases-loop-wanted : goal.decreases-loop-wanted
decreases-loop-wanted l = length l.words
