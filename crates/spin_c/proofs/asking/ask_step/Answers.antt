use Rattle.spin_c.proofs.asking.ask_step.Goals as goal

pub returns : goal.returns
returns c = record { told = c.call_on-outcome.result; called = c.call_on-outcome.ensures; number_is = c.code_of.ensures; step_is = c.step_of.ensures }
