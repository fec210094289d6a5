use Rattle.std.proofs.Common.{◌≡◌, ℕ, ◌-◌, ◌≤◌, List, [], ◌∷◌, length, map}
use Rattle.spin_grammar.specs.Grammar.{Numeral, Bindings, rising}
use Rattle.spin_grammar.specs.Forms.{padded}
use Rattle.spin_grammar.specs.Inner.Reading.{Leads}
use Rattle.spin_grammar.proofs.BindingNumbers.{IsRising}
use Rattle.spin_grammar.proofs.work.read_bindings.Given as goal

abbrev pub invariant-loop-at : goal.invariant-loop-at
invariant-loop-at l = record {
  few : l.count ≤ 4;
  small : l.low ≤ 4097;
  so_far : (ns : List ℕ) × (length ns ≡ l.at) × (l.numbers ≡ padded ns)
      × Leads (Bindings ∷ []) (Numeral l.count ∷ map Numeral ns) (rising l.low (l.count - l.at)) l.fn.words l.words × IsRising ns l.low;
}
