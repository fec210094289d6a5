use Rattle.std.proofs.Common.{◌≡◌}
use Rattle.spin.specs.Pens.{IsSamePen}
use Rattle.spin.specs.SetupOf.{data_of}
use Rattle.spin.specs.Seats.{IsSeat}
use Rattle.host_renewal.proofs.bind.Given as goal

-- it is still that seat of that hub
abbrev pub invariant-loop : goal.invariant-loop
invariant-loop g l = IsSamePen l.fn.seat.pen l.seat.pen × (l.seat.base ≡ l.fn.seat.base) × IsSeat (data_of l.hub.setup) l.seat
