use Rattle.std.proofs.Common.{◌≡◌}
use Rattle.spin_log.specs.Pens.{IsSamePen}
use Rattle.spin_table.specs.SetupOf.{data_of}
use Rattle.spin_seat.specs.Seats.{IsSeat}
use Rattle.spin_tests.proofs.renewed_hubs.fill.Given as goal

-- it is still that seat of that hub
abbrev pub invariant-loop : goal.invariant-loop
invariant-loop g l = IsSamePen l.fn.seat.pen l.seat.pen × (l.seat.base ≡ l.fn.seat.base) × IsSeat (data_of l.hub.setup) l.seat
