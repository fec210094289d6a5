use Rattle.spin_c.proofs.asking.ask_steps.Goals as goal

pub returns : goal.returns
returns c = record { told = c.steps_on-outcome.result; reads = c.steps_on-outcome.ensures; number_is = c.code_of.ensures; count_is = c.count_of.ensures }
