use Rattle.std.proofs.Common.{◌≡◌, ◌<◌, ℕ, get_or}
use Rattle.spin_place.proofs.ring.are_distinct.Given as goal

-- none of the first so many stands twice
abbrev pub invariant-loop-at : goal.invariant-loop-at
invariant-loop-at l =
    (i j d : ℕ) → i < j → j < l.at → get_or l.numbers i d ≡ get_or l.numbers j d → ⊥
