use Rattle.spin_log.specs.Pens.{IsSamePen}
use Rattle.spin_tests.proofs.logs.publish_all.Given as goal

abbrev pub invariant-loop-handler : goal.invariant-loop-handler
invariant-loop-handler l = IsSamePen l.fn.pen l.pen
