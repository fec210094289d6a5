use Rattle.std.proofs.Common.{◌≡◌, ◌+◌, ◌-◌, ◌≤◌, length}
use Rattle.spin_word.specs.declared.command.TheConstants.{MAX_PLACE}
use Rattle.spin_table.specs.SetupOf.{data_of}
use Rattle.spin_seat.specs.Seats.{IsSeat}
use Rattle.spin_seat.specs.Calls.{ReadsOn}
use Rattle.spin_seat.proofs.seat.Seat.command_turning.Given as goal

abbrev pub invariant-loop-alloc : goal.invariant-loop-alloc
invariant-loop-alloc g l =
    ReadsOn l.initial.self.pen l.self.pen × IsSeat (data_of l.hub.setup) l.self × (l.self.base ≡ l.initial.self.base)
    × (l.turns + length l.initial.self.pen.front ≤ l.initial.turns + length l.self.pen.front)

abbrev pub decreases-loop-alloc : goal.decreases-loop-alloc
decreases-loop-alloc g l = MAX_PLACE - length l.self.pen.front
