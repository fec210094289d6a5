-- Steps of a reply that are told in a list, by one call.
use Rattle.std.specs.Prelude.{◌≡◌, ◌<◌, ◌≤◌, ◌⊎◌, ℕ, List, Option, None, Some, drop, length, map, take}
use Rattle.std.specs.Option.{option_map}
use Rattle.spin_proto.specs.Parts.{trace_in}
use Rattle.spin_proto.specs.declared.reply.Step.{Step}
use Rattle.spin_c.specs.Kept.{reply_left}
use Rattle.spin_c.specs.Tellings.{code_of, laid_over}
use Rattle.spin_c.specs.Trails.{step_told}
use Rattle.spin_c.specs.declared.ask.Outcome.{Outcome}
use Rattle.spin_c.specs.declared.ask.Outcome.TheVariants as outcome
use Rattle.spin_c.specs.declared.lane.Held.{Held}
use Rattle.spin_c.specs.declared.lane.Held.TheVariants as held
use Rattle.spin_c.specs.declared.step.SpinStep.{SpinStep}

-- Below, A and B, C and D, E and F are the kinds of the boxed handlers, guards and authorisers.

-- these steps as they are told one by one, as many as have room
abbrev pub told_in : ℕ → List Step → List SpinStep
told_in room steps = take room (map step_told steps)

-- The steps from a place on stand at the front of a list as they are told, as many as it has room for, and it is told how
-- many; else the list is as it was, and it is told why: no reply is kept, or it has no step there.
abbrev pub AreTold : Option (List Step) → ℕ → List SpinStep → List SpinStep → Outcome → Type 0
AreTold None from before after told = (after ≡ before) × (told ≡ outcome.NoReply)
AreTold (Some steps) from before after told =
    let shown = told_in (length before) (drop from steps) in
    ((from < length steps) × (after ≡ laid_over shown before) × (told ≡ outcome.Steps (length shown)))
    ⊎ ((length steps ≤ from) × (after ≡ before) × (told ≡ outcome.NoStep))

-- what a handle tells of the reply that it keeps
abbrev pub TellsSteps : {A C E : Type 0} {B : A → Type 0} {D : C → Type 0} {F : E → Type 0}
    → Option (Held A C E B D F) → ℕ → List SpinStep → List SpinStep → Outcome → Type 0
TellsSteps None from before after told = (after ≡ before) × (told ≡ outcome.Closed)
TellsSteps (Some (held.Ended rows)) from before after told = (after ≡ before) × (told ≡ outcome.Ended)
TellsSteps (Some (held.Lane l)) from before after told =
    AreTold (option_map trace_in (reply_left l.reply)) from before after told

-- the same, where the handle is as it was
abbrev pub ReadsSteps : {A C E : Type 0} {B : A → Type 0} {D : C → Type 0} {F : E → Type 0}
    → Option (Held A C E B D F) → ℕ → List SpinStep → Option (Held A C E B D F) → List SpinStep → Outcome → Type 0
ReadsSteps kept from before now after told = (now ≡ kept) × TellsSteps kept from before after told

-- how many steps are told
abbrev pub count_of : Outcome → ℕ
count_of (outcome.Steps count) = count
count_of other = 0

-- The call tells steps in a list, and how many.
pub record FillsSteps {A C E : Type 0} {B : A → Type 0} {D : C → Type 0}
    {F : E → Type 0} (kept : Option (Held A C E B D F)) (from : ℕ) (before : List SpinStep)
    (now : Option (Held A C E B D F)) (number : ℕ) (after : List SpinStep) (count : ℕ) : Type 0 where
  pub told : Outcome
  pub reads : ReadsSteps kept from before now after told
  pub number_is : number ≡ code_of told
  pub count_is : count ≡ count_of told
