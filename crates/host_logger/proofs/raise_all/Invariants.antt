use Rattle.spin.specs.Pens.{IsSamePen}
use Rattle.spin.specs.SetupOf.{data_of}
use Rattle.spin.specs.Seats.{IsSeatOf}
use Rattle.host_logger.proofs.raise_all.Given as goal

-- it is still that seat of that hub
abbrev pub invariant-loop-happened : goal.invariant-loop-happened
invariant-loop-happened g l = IsSamePen l.fn.seat.pen l.seat.pen × IsSeatOf (data_of l.hub.setup) l.seat
