use Rattle.std.proofs.Common.{◌≡◌, ◌+◌, ◌≤◌, ◌++◌, length, vec_capacity}
use Rattle.std.specs.Prelude.{map}
use Rattle.spin_seat.specs.Seats.{SeatValue}
use Rattle.spin_seat.proofs.seats.pens_of.Given as goal

abbrev pub invariant-loop-seat : goal.invariant-loop-seat
invariant-loop-seat l = (l.pens.items ++ map (λ (s : SeatValue). s.pen) l.seats ≡ map (λ (s : SeatValue). s.pen) l.fn.seats)
    × (length l.pens.items + length l.seats ≤ vec_capacity l.pens)

abbrev pub decreases-loop-seat : goal.decreases-loop-seat
decreases-loop-seat l = length l.seats
