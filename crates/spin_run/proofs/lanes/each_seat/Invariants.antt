use Rattle.std.proofs.Common.{◌≡◌, ◌++◌, map, length}
use Rattle.spin_run.specs.declared.lane.Lane.{Lane}
use Rattle.spin_run.specs.Inner.Answering.{AreFresh}
use Rattle.spin_run.proofs.lanes.each_seat.Given as goal

abbrev pub invariant-loop-seat : goal.invariant-loop-seat
invariant-loop-seat l = (map (λ (lane : Lane). lane.seat) l.lanes.items ++ l.seats ≡ l.fn.seats) × AreFresh l.lanes.items

abbrev pub decreases-loop-seat : goal.decreases-loop-seat
decreases-loop-seat l = length l.seats
