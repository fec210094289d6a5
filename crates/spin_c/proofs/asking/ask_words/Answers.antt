use Rattle.std.proofs.Common.{inl}
use Rattle.spin_c.proofs.asking.ask_words.Goals as goal

pub returns : goal.returns
returns c = record { told = c.words_on-outcome.result; called = inl c.words_on-outcome.ensures; number_is = c.tell.ensures.number; answer_is = c.tell.ensures.answer }
