use Rattle.spin_table.specs.SetupOf.{data_of}
use Rattle.spin_seat.proofs.SeatRenewals.{Round}
use Rattle.spin_seat.proofs.hub.Hub.meet_each.Given as goal

abbrev pub invariant-loop-k : goal.invariant-loop-k
invariant-loop-k g l = Round (data_of l.self.setup) l.fn.first l.fn.others l.k l.first l.others
