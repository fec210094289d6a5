use Rattle.std.proofs.Common.{sym, arith}
use Rattle.spin_whole.proofs.JobSteps.{sends_more}
use Rattle.spin_whole.proofs.sends.add_steps.Goals as goal

pub loop-step-preserved : goal.loop-step-preserved
loop-step-preserved c =
    sends_more c.args.sends.now c.loop-step.sends c.add_step.new.sends c.args.steps.now c.loop-step.step-index c.step-item.result
    (omega (arith, c.loop-step-test.true)) (sym c.step-item.is) c.loop-step.invariant c.in_ok-add_step.ensures
