use Rattle.std.proofs.Common.{◌≡◌, ◌++◌, map, length}
use Rattle.std.specs.List.{All}
use Rattle.spin_run.specs.declared.lane.Lane.{Lane}
use Rattle.spin_run.specs.Lanes.{IsFresh}
use Rattle.spin_tests.proofs.lanes.lanes_of.Given as goal

-- the seats of the lanes so far and those that are left are all seats
abbrev pub invariant-loop-seat : goal.invariant-loop-seat
invariant-loop-seat l = (map (λ (lane : Lane). lane.seat) l.lanes ++ l.seats ≡ l.fn.seats) × All IsFresh l.lanes

abbrev pub decreases-loop-seat : goal.decreases-loop-seat
decreases-loop-seat l = length l.seats
