use Rattle.std.proofs.Common.{◌≡◌, Any, IsTrue}
use Rattle.std.specs.List.{AllWithin}
use Rattle.spin_place.specs.Precedence.{must_precede}
use Rattle.spin_place.proofs.ring.leads.Given as goal

-- none of those so far has the first number and must precede one of the second
abbrev pub invariant-loop-earlier : goal.invariant-loop-earlier
invariant-loop-earlier l =
    AllWithin (λ b. (b.number ≡ l.first) × Any (λ c. (c.number ≡ l.second) × IsTrue (must_precede b c)) l.bindings → ⊥)
    l.bindings 0 l.earlier-index
