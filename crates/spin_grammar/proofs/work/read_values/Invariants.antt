use Rattle.std.proofs.Common.{◌-◌, [], ◌∷◌, map}
use Rattle.spin_grammar.specs.Grammar.{Values}
use Rattle.spin_grammar.specs.Forms.{value_atom}
use Rattle.spin_grammar.specs.Inner.Reading.{Leads}
use Rattle.spin_grammar.proofs.work.read_values.Given as goal

abbrev pub invariant-loop : goal.invariant-loop
invariant-loop l = Leads (Values 8 ∷ []) (map value_atom l.values) (Values (8 - l.counter) ∷ []) l.fn.words l.words
