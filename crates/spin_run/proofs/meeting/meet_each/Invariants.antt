use Rattle.std.proofs.Common.{◌≡◌, map}
use Rattle.spin_table.specs.SetupOf.{data_of}
use Rattle.spin_run.specs.declared.lane.Lane.{Lane}
use Rattle.spin_run.proofs.LaneMeetings.{Round}
use Rattle.spin_run.proofs.meeting.meet_each.Given as goal

abbrev pub invariant-loop-k : goal.invariant-loop-k
invariant-loop-k g l =
    Round (data_of l.hub.setup) l.fn.lanes l.k l.lanes
    × (map (λ (lane : Lane). lane.stop) l.lanes ≡ map (λ (lane : Lane). lane.stop) l.fn.lanes)
