-- What stands at the front of what is held, as more comes.
use Rattle.std.proofs.Common.{◌≤◌, ℕ, List, [], ◌++◌, length, sym, ap, ◌∙◌, arith, append_assoc}
use Rattle.std.proofs.lemmas.List.{append-nil, length-append}
use Rattle.spin_pcap.specs.Windows.{Grows}

pub grows-none : (held : List ℕ) → Grows held held
grows-none held = ([], sym (append-nil held))

pub grows-then : (a b c : List ℕ) → Grows a b → Grows b c → Grows a c
grows-then a b c p q = (p.0 ++ q.0, q.1 ∙ ap (λ ys. ys ++ q.0) p.1 ∙ append_assoc a p.0 q.0)

pub at_least : (held held' : List ℕ) → Grows held held' → length held ≤ length held'
at_least held held' g = omega (arith, ap length g.1, length-append held g.0)
