use Rattle.std.proofs.Common.{◌≡◌, ◌++◌, map, length}
use Rattle.spin_run.specs.declared.lane.Lane.{Lane}
use Rattle.spin_tests.proofs.lanes.seats_of.Given as goal

-- the seats so far and those of the lanes that are left are the seats of all lanes
abbrev pub invariant-loop-lane : goal.invariant-loop-lane
invariant-loop-lane l = l.seats ++ map (λ (lane : Lane). lane.seat) l.lanes ≡ map (λ (lane : Lane). lane.seat) l.fn.lanes

abbrev pub decreases-loop-lane : goal.decreases-loop-lane
decreases-loop-lane l = length l.lanes
