use Rattle.std.proofs.Common.{◌≤◌, get_or}
use Rattle.std.specs.List.{AllWithin}
use Rattle.spin_place.proofs.ring.is_least_first.Given as goal

abbrev pub invariant-loop-number : goal.invariant-loop-number
invariant-loop-number l = AllWithin (λ n. get_or l.numbers 0 0 ≤ n) l.numbers 0 l.number-index
