use Rattle.std.proofs.Common.{◌≡◌, length}
use Rattle.spin_table.specs.States.{State}
use Rattle.spin_seat.specs.Parties.{IsWellParty}
use Rattle.spin_c.specs.Waiting.{AreTakenIn, IsAwayAt}
use Rattle.spin_c.proofs.gathering.take_all_in.Given as goal

abbrev pub invariant-loop-at : goal.invariant-loop-at
invariant-loop-at g l =
    ((first : State) → IsWellParty l.party first → AreTakenIn (IsAwayAt l.party first) 0 l.fn.slots l.slots) × (length l.slots ≡ length l.fn.slots)
