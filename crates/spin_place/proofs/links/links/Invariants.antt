use Rattle.std.proofs.Common.{◌≡◌, ℕ, sum_by, take}
use Rattle.spin_place.specs.Inner.Links.{said, times_linked}
use Rattle.spin_place.proofs.links.links.Given as goal

abbrev pub invariant-loop-binding : goal.invariant-loop-binding
invariant-loop-binding l =
    (m n : ℕ) → times_linked l.links.items m n ≡ sum_by (said m n) (take l.binding-index l.bindings)
