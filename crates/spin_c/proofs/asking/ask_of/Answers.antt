use Rattle.std.proofs.Common.{inl}
use Rattle.spin_c.proofs.asking.ask_of.Goals as goal

pub returns : goal.returns
returns c = record { told = c.call_on-outcome.result; called = inl c.call_on-outcome.ensures; number_is = c.tell.ensures.number; answer_is = c.tell.ensures.answer }
