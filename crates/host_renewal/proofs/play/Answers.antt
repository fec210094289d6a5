use Rattle.std.proofs.Common.{◌∙◌}
use Rattle.host_renewal.proofs.play.Goals as goal

pub loop-preserved : goal.loop-preserved
loop-preserved g c = (c.in_ok-course.ensures.setup ∙ c.loop.invariant.0, rw c.in_ok-course.ensures.setup c.in_ok-course.ensures.all)
