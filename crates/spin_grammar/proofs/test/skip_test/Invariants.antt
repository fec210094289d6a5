use Rattle.std.proofs.Common.{◌<◌, ◌≤◌, ◌+◌, ◌^◌, length}
use Rattle.spin_grammar.specs.Grammar.{Test}
use Rattle.spin_grammar.specs.Forms.{test_form}
use Rattle.spin_grammar.specs.Inner.Reading.{Regrows}
use Rattle.spin_grammar.proofs.test.skip_test.Given as goal

abbrev pub invariant-loop-wanted : goal.invariant-loop-wanted
invariant-loop-wanted l = record { room : l.wanted + length l.words < 2 ^ 32; falls : length l.words ≤ length l.fn.words; so_far : Regrows test_form Test 1 l.wanted l.fn.words l.words }

abbrev pub decreases-loop-wanted : goal.decreases-loop-wanted
decreases-loop-wanted l = length l.words
