use Rattle.spin_table.specs.SetupOf.{data_of}
use Rattle.spin_seat.specs.RenewedHubs.{AreAllSeats}
use Rattle.spin_driver.proofs.hubs.ask_in_turn.Given as goal

-- they are still all seats of that hub
abbrev pub invariant-loop-turn : goal.invariant-loop-turn
invariant-loop-turn g l = AreAllSeats (data_of l.hub.setup) l.hub.log l.seats
