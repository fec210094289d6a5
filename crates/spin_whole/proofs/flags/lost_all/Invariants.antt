use Rattle.std.proofs.Common.{ℕ, List}
use Rattle.spin_endpoint.specs.Named.{NamedEnd}
use Rattle.spin_check.specs.Inner.Standings.{AreFlags}
use Rattle.spin_check.proofs.EndpointFlags.{IsLosing}
use Rattle.spin_whole.proofs.flags.lost_all.Given as goal

abbrev pub invariant-loop-number : goal.invariant-loop-number
invariant-loop-number l = (names : List (List ℕ)) (ends : List NamedEnd) → AreFlags names ends l.flags → IsLosing names ends l.sends l.number l.initial.out l.out
