use Rattle.std.proofs.Common.{sym, arith}
use Rattle.spin_check.proofs.JobLemmas.{sends_more}
use Rattle.spin_check.proofs.sends.add_of_trace.Goals as goal

pub loop-step-preserved : goal.loop-step-preserved
loop-step-preserved c =
    sends_more c.args.sends.now c.loop-step.sends c.add_of_step.new.sends c.args.trace.now c.loop-step.step-index c.step-item.result
    (omega (arith, c.loop-step-test.true)) (sym c.step-item.is) c.loop-step.invariant c.in_ok-add_of_step.ensures
