use Rattle.std.proofs.Common.{◌≡◌, [], ◌∷◌}
use Rattle.spin.specs.SetupOf.{data_of}
use Rattle.spin.specs.RenewedHubs.{AreAllSeats}
use Rattle.host_renewal.proofs.play.Given as goal

-- both seats are all of the hub, whose setup stays
abbrev pub invariant-loop : goal.invariant-loop
invariant-loop g l = (l.course.hub.setup ≡ l.initial.course.hub.setup)
    × AreAllSeats (data_of l.course.hub.setup) l.course.hub.log (l.course.a ∷ l.course.b ∷ [])
