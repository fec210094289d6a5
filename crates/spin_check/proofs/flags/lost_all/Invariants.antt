use Rattle.std.proofs.Common.{◌≡◌, ℕ, List}
use Rattle.spin_endpoint.specs.Named.{NamedEnd}
use Rattle.spin_endpoint.specs.Sends.{SentSeen}
use Rattle.spin_check.specs.Inner.Standings.{AreFlags, numbers_of}
use Rattle.spin_check.proofs.EndpointFlags.{IsLosing}
use Rattle.spin_check.proofs.flags.lost_all.Given as goal

abbrev pub invariant-loop-number : goal.invariant-loop-number
invariant-loop-number l =
    (names : List (List ℕ)) (ends : List NamedEnd) (sent : List SentSeen) → AreFlags names ends l.flags → numbers_of sent ≡ l.sends → IsLosing names ends sent l.number l.initial.out l.out
