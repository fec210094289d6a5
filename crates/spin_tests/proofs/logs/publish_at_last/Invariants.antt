use Rattle.spin_log.specs.Pens.{IsSamePen}
use Rattle.spin_tests.proofs.logs.publish_at_last.Given as goal

abbrev pub invariant-loop : goal.invariant-loop
invariant-loop l = IsSamePen l.fn.pen l.pen
