use Rattle.std.proofs.Common.{◌≡◌, ℕ, ◌+◌, ◌&&◌, count_by, take}
use Rattle.std.specs.Prelude.{◌==◌}
use Rattle.spin_place.specs.Inner.Links.{names_other, times_linked}
use Rattle.spin_place.proofs.links.add_links.Given as goal

-- what the binding says by the numbers so far that it goes before
abbrev pub invariant-loop-named : goal.invariant-loop-named
invariant-loop-named l =
    (m n : ℕ) → times_linked l.links.items m n
    ≡ times_linked l.fn.links.items m n
    + count_by (λ named. names_other l.binding.number named && (m == l.binding.number && named == n)) (take l.named-index l.binding.before)

-- and by those that it goes after
abbrev pub invariant-loop-named-2 : goal.invariant-loop-named-2
invariant-loop-named-2 l =
    (m n : ℕ) → times_linked l.links.items m n
    ≡ times_linked l.fn.links.items m n
    + count_by (λ named. names_other l.binding.number named && (m == l.binding.number && named == n)) l.binding.before
    + count_by (λ named. names_other l.binding.number named && (m == named && l.binding.number == n)) (take l.named-index l.binding.after)
