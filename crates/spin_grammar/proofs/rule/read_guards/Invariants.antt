use Rattle.std.proofs.Common.{◌≡◌, ◌-◌, [], ◌∷◌, length, map, replicate}
use Rattle.spin_grammar.specs.Grammar.{Number, Numeral, Counted}
use Rattle.spin_grammar.specs.Inner.Reading.{Leads}
use Rattle.spin_grammar.proofs.rule.read_guards.Given as goal

abbrev pub invariant-loop : goal.invariant-loop
invariant-loop l = record {
  count : length l.guards ≡ l.counter;
  so_far : Leads (Counted l.low 4 (Number 1 1023) ∷ []) (Numeral l.count ∷ map Numeral l.guards) (replicate (l.count - l.counter) (Number 1 1023)) l.fn.words l.words;
}
