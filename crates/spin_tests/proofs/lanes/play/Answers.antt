use Rattle.std.proofs.Common.{sym, subst}
use Rattle.std.specs.Prelude.{All}
use Rattle.spin_table.specs.SetupOf.{data_of}
use Rattle.spin_table.specs.States.{start_of}
use Rattle.spin_seat.specs.Seats.{IsSeatOf}
use Rattle.spin_tests.proofs.lanes.play.Goals as goal

pub run_over-requires-clause-seats : goal.run_over-requires-clause-seats
run_over-requires-clause-seats g c κs within =
    (start_of (data_of c.in_ok-hub.hub.setup), subst (λ (st : _). All (IsSeatOf (data_of st)) c.in_ok-hub.seats) (sym c.in_ok-hub.ensures.setup) c.in_ok-hub.ensures.seats)
