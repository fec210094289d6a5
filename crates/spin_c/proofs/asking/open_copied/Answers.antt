use Rattle.std.proofs.Common.{refl, inr}
use Rattle.spin_c.specs.declared.ask.Outcome.TheVariants as outcome
use Rattle.spin_c.proofs.asking.open_copied.Goals as goal

pub returns-in-Ok : goal.returns-in-Ok
returns-in-Ok c = rw c.in-Ok.ensures at c.ask_of.ensures

pub returns-in-Err : goal.returns-in-Err
returns-in-Err c = record {
  told = outcome.NoMemory;
  called = inr (refl, refl, (c.requires.some, c.requires.few));
  number_is = c.tell.ensures.number;
  answer_is = c.tell.ensures.answer;
}
