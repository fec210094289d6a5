-- By which numbers it is told what a call comes to.
use Rattle.std.specs.Prelude.{◌≡◌, ◌<◌, ◌≤◌, ◌++◌, ◌⊎◌, ℕ, List, Option, All, drop, length, map}
use Rattle.spin_values.specs.declared.values.Value.{Value}
use Rattle.spin_c.specs.Given.{IsGiven, value_of}
use Rattle.spin_c.specs.Trails.{blank}
use Rattle.spin_c.specs.Shares.{Shares}
use Rattle.spin_c.specs.Turns.{IsCalled, Turns}
use Rattle.spin_c.specs.Verdicts.{no_natives}
use Rattle.spin_c.specs.declared.ask.Ask.{Ask}
use Rattle.spin_c.specs.declared.ask.Ask.TheVariants as asked
use Rattle.spin_c.specs.declared.ask.Outcome.{Outcome}
use Rattle.spin_c.specs.declared.ask.Outcome.TheVariants as outcome
use Rattle.spin_c.specs.declared.given.SpinArg.{SpinArg}
use Rattle.spin_c.specs.declared.lane.Held.{Held}
use Rattle.spin_c.specs.declared.row.SpinRow.{SpinRow}
use Rattle.spin_c.specs.declared.step.SpinStep.{SpinStep}
use Rattle.spin_c.specs.declared.told.SpinAnswer.{SpinAnswer}
use Rattle.spin_word.specs.declared.row.Row.{Row}

-- the number that a call answers
abbrev pub code_of : Outcome → ℕ
code_of outcome.Done = 0
code_of outcome.NoMemory = 1
code_of (outcome.Bad line cause) = 2
code_of outcome.Closed = 4
code_of outcome.Open = 5
code_of outcome.NoCommand = 6
code_of outcome.Full = 7
code_of (outcome.Refused place why) = 8
code_of outcome.NoReply = 9
code_of outcome.NoStep = 10
code_of outcome.NoArgument = 12
code_of outcome.NoLane = 13
code_of outcome.Taken = 14
code_of outcome.NoBinding = 15
code_of outcome.Shared = 17
code_of outcome.Ended = 19
code_of outcome.NoRow = 20
code_of outcome.NoJob = 18
code_of (outcome.Raised place told) = 0
code_of (outcome.Step found) = 0
code_of (outcome.Steps count) = 0
code_of (outcome.Bytes bytes) = 0
code_of (outcome.Before number) = 0
code_of (outcome.Out count) = 0
code_of (outcome.Rows count) = 0
code_of (outcome.Row row) = 0
code_of (outcome.InCycle binding) = 0
code_of (outcome.Accepted place) = 0

-- what it tells besides
abbrev pub answer_of : Outcome → SpinAnswer
answer_of (outcome.Bad line cause) = record { place = line; kind = cause; value = 0; steps = 0 }
answer_of (outcome.Accepted place) = record { place = place; kind = 0; value = 0; steps = 0 }
answer_of (outcome.Refused place why) =
    record { place = place; kind = why.kind; value = why.rule; steps = why.bindings }
answer_of (outcome.Raised place told) =
    record { place = place; kind = told.kind; value = told.value; steps = told.steps }
answer_of (outcome.Before number) = record { place = 0; kind = 0; value = number; steps = 0 }
answer_of (outcome.Out count) = record { place = 0; kind = 0; value = count; steps = 0 }
answer_of (outcome.Rows count) = record { place = count; kind = 0; value = count; steps = 0 }
answer_of (outcome.InCycle binding) = record { place = 0; kind = 0; value = binding; steps = 0 }
answer_of other = record { place = 0; kind = 0; value = 0; steps = 0 }

-- The call does so, or there was no memory to copy what is handed in; and what it comes to is told.
pub record TellsOf {A C E : Type 0} {B : A → Type 0} {D : C → Type 0}
    {F : E → Type 0} (kept : Option (Held A C E B D F))
    (call : Ask) (after : Option (Held A C E B D F)) (number : ℕ) (answer : SpinAnswer) : Type 0 where
  pub told : Outcome
  pub called : IsCalled kept call after told
  pub number_is : number ≡ code_of told
  pub answer_is : answer ≡ answer_of told

-- The call asks so with the arguments, where they are given; else it is told that one isn't, and the handle is as it was.
abbrev pub TellsOfArgs : {A C E : Type 0} {B : A → Type 0} {D : C → Type 0} {F : E → Type 0}
    → Option (Held A C E B D F) → (List Value → Ask) → List ℕ → List SpinArg
    → Option (Held A C E B D F) → ℕ → SpinAnswer → Type 0
TellsOfArgs kept call bytes given after number answer =
    (All (IsGiven bytes) given × TellsOf kept (call (map (value_of bytes) given)) after number answer)
    ⊎ ((All (IsGiven bytes) given → ⊥) × (after ≡ kept)
    × (number ≡ code_of outcome.NoArgument) × (answer ≡ answer_of outcome.NoArgument))

-- ---- other lanes

-- The call hands a seat out so, or says why not by this number.
pub record TellsShare {A C E : Type 0} {B : A → Type 0} {D : C → Type 0}
    {F : E → Type 0} (kept other : Option (Held A C E B D F))
    (lane : ℕ) (after share : Option (Held A C E B D F)) (number : ℕ) : Type 0 where
  pub told : Outcome
  pub shares : Shares kept other lane after share told
  pub number_is : number ≡ code_of told

-- ---- steps

-- the step that is told; zeros where there is none
abbrev pub step_of : Outcome → SpinStep
step_of (outcome.Step found) = found
step_of other = blank 0

-- The call asks for a step, and tells it.
pub record TellsStep {A C E : Type 0} {B : A → Type 0} {D : C → Type 0}
    {F : E → Type 0} (kept : Option (Held A C E B D F))
    (call : Ask) (after : Option (Held A C E B D F)) (number : ℕ) (step : SpinStep) : Type 0 where
  pub told : Outcome
  pub called : Turns no_natives kept call after told
  pub number_is : number ≡ code_of told
  pub step_is : step ≡ step_of told

-- a buffer with these at its front, behind which it is as it was
abbrev pub laid_over : {A : Type 0} → List A → List A → List A
laid_over items buffer = items ++ drop (length items) buffer

-- Bytes stand at the front of a buffer where it has room for them; else it is as it was, which is told.
abbrev pub AreCopied : List ℕ → List ℕ → ℕ → List ℕ → Type 0
AreCopied bytes before number after =
    ((length bytes ≤ length before) × (number ≡ 0) × (after ≡ laid_over bytes before))
    ⊎ ((length before < length bytes) × (number ≡ 11) × (after ≡ before))

-- bytes that are handed out are copied, and it is told how many they are; else the buffer is as it was
abbrev pub AreHandedTo : Outcome → List ℕ → ℕ → List ℕ → ℕ → Type 0
AreHandedTo (outcome.Bytes bytes) before number after wanted =
    AreCopied bytes before number after × (wanted ≡ length bytes)
AreHandedTo other before number after wanted = (number ≡ code_of other) × (after ≡ before) × (wanted ≡ 0)

-- The call asks for the bytes of a step, and copies them into a buffer.
pub record HandsBytes {A C E : Type 0} {B : A → Type 0} {D : C → Type 0}
    {F : E → Type 0} (kept : Option (Held A C E B D F)) (call : Ask) (before : List ℕ)
    (after : Option (Held A C E B D F)) (number : ℕ) (buffer : List ℕ) (wanted : ℕ) : Type 0 where
  pub told : Outcome
  pub called : Turns no_natives kept call after told
  pub handed : AreHandedTo told before number buffer wanted

-- ---- commands

-- the row that C hands in
abbrev pub row_from : SpinRow → Row
row_from given = record { a = given.a; b = given.b; c = given.c; d = given.d }

-- ---- rows of a log

-- the row as C has it
abbrev pub row_to : Row → SpinRow
row_to row = record { a = row.a; b = row.b; c = row.c; d = row.d }

-- the row that is told; zeros where there is none
abbrev pub row_of : Outcome → SpinRow
row_of (outcome.Row row) = row_to row
row_of other = record { a = 0; b = 0; c = 0; d = 0 }

-- The call tells a row of the log of a hub that was ended.
pub record TellsRow {A C E : Type 0} {B : A → Type 0} {D : C → Type 0}
    {F : E → Type 0} (kept : Option (Held A C E B D F))
    (index : ℕ) (after : Option (Held A C E B D F)) (number : ℕ) (row : SpinRow) : Type 0 where
  pub told : Outcome
  pub called : Turns no_natives kept (asked.RowAt index) after told
  pub number_is : number ≡ code_of told
  pub row_is : row ≡ row_of told
