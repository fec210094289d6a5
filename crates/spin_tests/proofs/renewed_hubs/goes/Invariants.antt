use Rattle.std.proofs.Common.{◌≡◌, [], ◌∷◌}
use Rattle.spin_table.specs.SetupOf.{data_of}
use Rattle.spin_seat.specs.RenewedHubs.{AreAllSeats}
use Rattle.spin_tests.proofs.renewed_hubs.goes.Given as goal

-- both seats are all of the hub, whose setup stays
abbrev pub invariant-loop-round : goal.invariant-loop-round
invariant-loop-round l = (l.course.hub.setup ≡ l.initial.course.hub.setup)
    × AreAllSeats (data_of l.course.hub.setup) l.course.hub.log (l.course.a ∷ l.course.b ∷ [])
