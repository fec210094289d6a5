use Rattle.spin_table.specs.SetupOf.{data_of}
use Rattle.spin_seat.specs.RenewedHubs.{KnowsMore, KnowMore}
use Rattle.spin_driver.proofs.hubs.meet_others.Given as goal

-- all know more, and are as before else
abbrev pub invariant-loop-k : goal.invariant-loop-k
invariant-loop-k g l = KnowsMore (data_of l.hub.setup) l.fn.first l.first × KnowMore (data_of l.hub.setup) l.fn.others l.others
