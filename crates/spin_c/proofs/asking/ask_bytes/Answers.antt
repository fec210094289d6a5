use Rattle.spin_c.proofs.asking.ask_bytes.Goals as goal

pub returns : goal.returns
returns c = record { told = c.call_on-outcome.result; called = c.call_on-outcome.ensures; handed = c.hand_to.ensures }
