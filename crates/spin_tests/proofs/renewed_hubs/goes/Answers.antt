use Rattle.std.proofs.Common.{◌∙◌}
use Rattle.spin_tests.proofs.renewed_hubs.goes.Goals as goal

pub loop-round-preserved : goal.loop-round-preserved
loop-round-preserved c = (c.in_ok-next.ensures.setup ∙ c.loop-round.invariant.0, rw c.in_ok-next.ensures.setup c.in_ok-next.ensures.all)
