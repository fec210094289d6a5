-- What is told where there are no values of arguments.
use Rattle.std.proofs.Common.{◌≡◌, ℕ, List, refl, inl, inr}
use Rattle.std.specs.Prelude.{Option, map}
use Rattle.spin_values.specs.declared.values.Value.{Value}
use Rattle.spin_c.specs.Given.{IsUngiven, value_of}
use Rattle.spin_c.specs.Tellings.{TellsOfArgs, answer_of, code_of}
use Rattle.spin_c.specs.Turns.{IsCopied}
use Rattle.spin_c.specs.declared.ask.Ask.{Ask}
use Rattle.spin_c.specs.declared.ask.Outcome.{Outcome}
use Rattle.spin_c.specs.declared.ask.Outcome.TheVariants as outcome
use Rattle.spin_c.specs.declared.given.SpinArg.{SpinArg}
use Rattle.spin_c.specs.declared.lane.Held.{Held}
use Rattle.spin_c.specs.declared.told.SpinAnswer.{SpinAnswer}

pub ungiven : {A C E : Type 0} {B : A → Type 0} {D : C → Type 0} {F : E → Type 0} (kept : Option (Held A C E B D F)) (call : List Value → Ask) (bytes : List ℕ)
    (given : List SpinArg) (why : Outcome) (number : ℕ) (answer : SpinAnswer) → ((args : List Value) → IsCopied (call args)) → IsUngiven bytes given why
    → number ≡ code_of why → answer ≡ answer_of why → TellsOfArgs kept call bytes given kept number answer
ungiven kept call bytes given outcome.NoArgument number answer copied is n a = inr (is, refl, n, a)
ungiven kept call bytes given outcome.NoMemory number answer copied is n a =
    inl (is, record { told = outcome.NoMemory; called = inr (refl, refl, copied (map (value_of bytes) given)); number_is = n; answer_is = a })
ungiven kept call bytes given other number answer copied is n a = absurd is
