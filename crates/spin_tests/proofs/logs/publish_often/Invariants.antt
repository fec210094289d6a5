use Rattle.spin_log.specs.Pens.{IsSamePen}
use Rattle.spin_tests.proofs.logs.publish_often.Given as goal

abbrev pub invariant-loop-done : goal.invariant-loop-done
invariant-loop-done l = IsSamePen l.fn.pen l.pen
