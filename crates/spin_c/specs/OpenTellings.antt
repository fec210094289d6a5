-- By which numbers it is told what a call of an open raise comes to.
use Rattle.std.specs.Prelude.{◌≡◌, ◌≢◌, ◌⊎◌, ℕ, true, List, [], Option, None, All, is_some, length, map}
use Rattle.spin_host.specs.Frames.{due_in}
use Rattle.spin_host.specs.Levels.{OnTop}
use Rattle.spin_c.specs.declared.given.SpinArg.{SpinArg}
use Rattle.spin_c.specs.declared.gifts.SpinGift.{SpinGift}
use Rattle.spin_c.specs.declared.lane.Held.{Held}
use Rattle.spin_c.specs.declared.moves.Move.{Move}
use Rattle.spin_c.specs.declared.moves.Move.TheVariants as move
use Rattle.spin_c.specs.declared.moves.Upshot.{Upshot}
use Rattle.spin_c.specs.declared.moves.Upshot.TheVariants as upshot
use Rattle.spin_c.specs.declared.raising.Opened.{Opened}
use Rattle.spin_c.specs.declared.raising.Raising.{Raising}
use Rattle.spin_c.specs.declared.step.SpinStep.{SpinStep}
use Rattle.spin_c.specs.declared.told.SpinAnswer.{SpinAnswer}
use Rattle.spin_c.specs.Beginnings.{Begins}
use Rattle.spin_c.specs.Gifts.{IsGift, gift_of}
use Rattle.spin_c.specs.Given.{IsGiven, value_of}
use Rattle.spin_c.specs.Moves.{Moves}
use Rattle.spin_c.specs.Raisings.{IsRaising, IsRaisingAnd, IsShut, setup_of}
use Rattle.spin_c.specs.Tellings.{AreCopied}
use Rattle.spin_c.specs.Trails.{blank}
use Rattle.spin_c.specs.Waiting.{IsOnLane}

-- Below, A and B, C and D, E and F are the kinds of the boxed handlers, guards and authorisers.

-- the number that a call answers
abbrev pub number_of : Upshot → ℕ
number_of upshot.NoMemory = 1
number_of upshot.Closed = 4
number_of upshot.Open = 5
number_of upshot.NoStep = 10
number_of upshot.NoArgument = 12
number_of upshot.Ended = 19
number_of (upshot.NotRaised place kind) = 22
number_of upshot.NotDue = 23
number_of upshot.Downward = 24
number_of (upshot.Refused fault) = 25
number_of other = 0

-- what it tells besides
abbrev pub answer_of : Upshot → SpinAnswer
answer_of (upshot.Begun place) = record { place = place; kind = 0; value = 0; steps = 0 }
answer_of (upshot.NotRaised place kind) = record { place = place; kind = kind; value = 0; steps = 0 }
answer_of (upshot.Refused fault) = record { place = 0; kind = fault; value = 0; steps = 0 }
answer_of (upshot.Gave count) = record { place = 0; kind = 0; value = 0; steps = count }
answer_of other = record { place = 0; kind = 0; value = 0; steps = 0 }

-- the step that is told; zeros where there is none
abbrev pub step_of : Upshot → SpinStep
step_of (upshot.Told step) = step
step_of other = blank 0

-- the argument that is told: a word, or how many bytes there are; zeros where there is none
abbrev pub arg_of : Upshot → SpinArg
arg_of (upshot.Word word) = record { kind = 0; at = word; length = 0 }
arg_of (upshot.Bytes bytes) = record { kind = 1; at = 0; length = length bytes }
arg_of other = record { kind = 0; at = 0; length = 0 }

-- ---- calls that hand nothing in

-- The call does so, and it is told by this number.
pub record TellsMove {A C E : Type 0} {B : A → Type 0} {D : C → Type 0} {F : E → Type 0}
    (kept : Option (Raising A C E B D F)) (asked : Move) (after : Option (Raising A C E B D F)) (number : ℕ)
    : Type 0 where
  pub told : Upshot
  pub moves : Moves kept asked after told
  pub number_is : number ≡ number_of told

-- The same with what it tells besides, or with a step.
pub record TellsMoveAnswer {A C E : Type 0} {B : A → Type 0} {D : C → Type 0} {F : E → Type 0}
    (kept : Option (Raising A C E B D F)) (asked : Move) (after : Option (Raising A C E B D F)) (number : ℕ)
    (answer : SpinAnswer) : Type 0 where
  pub told : Upshot
  pub moves : Moves kept asked after told
  pub number_is : number ≡ number_of told
  pub answer_is : answer ≡ answer_of told

pub record TellsMoveStep {A C E : Type 0} {B : A → Type 0} {D : C → Type 0} {F : E → Type 0}
    (kept : Option (Raising A C E B D F)) (asked : Move) (after : Option (Raising A C E B D F)) (number : ℕ)
    (step : SpinStep) : Type 0 where
  pub told : Upshot
  pub moves : Moves kept asked after told
  pub number_is : number ≡ number_of told
  pub step_is : step ≡ step_of told

-- bytes that are handed out are copied to the front of a buffer; else that is as it was
abbrev pub AreHandedBy : Upshot → List ℕ → ℕ → List ℕ → Type 0
AreHandedBy (upshot.Bytes bytes) before number after = AreCopied bytes before number after
AreHandedBy other before number after = (number ≡ number_of other) × (after ≡ before)

-- The call hands out a word, or bytes, which are copied.
pub record HandsMove {A C E : Type 0} {B : A → Type 0} {D : C → Type 0} {F : E → Type 0}
    (kept : Option (Raising A C E B D F)) (asked : Move) (before : List ℕ) (after : Option (Raising A C E B D F))
    (number : ℕ) (buffer : List ℕ) (arg : SpinArg) : Type 0 where
  pub told : Upshot
  pub moves : Moves kept asked after told
  pub handed : AreHandedBy told before number buffer
  pub arg_is : arg ≡ arg_of told

-- ---- calls that hand something in

-- no firing is due in the raise that is open, or one is
abbrev pub IsNoneDue : {A C E : Type 0} {B : A → Type 0} {D : C → Type 0} {F : E → Type 0} → Opened A C E B D F → Type 0
IsNoneDue o = OnTop (setup_of o) o.raise (λ sig e. due_in e o.raise.top.frame ≡ None)

abbrev pub IsOneDue : {A C E : Type 0} {B : A → Type 0} {D : C → Type 0} {F : E → Type 0} → Opened A C E B D F → Type 0
IsOneDue o = OnTop (setup_of o) o.raise (λ sig e. is_some (due_in e o.raise.top.frame) ≡ true)

-- why nothing is asked of an open raise: none is open; or one is, and what is handed in isn't as it should; or it is, and
-- no firing is due; or one is, something is handed in, and there was no memory for it
abbrev pub IsUnasked : {A C E : Type 0} {B : A → Type 0} {D : C → Type 0} {F : E → Type 0}
    → Type 0 → Type 0 → Option (Raising A C E B D F) → Upshot → Type 0
IsUnasked fits some kept upshot.Closed = IsShut kept
IsUnasked fits some kept upshot.NoArgument = IsRaising kept × (fits → ⊥)
IsUnasked fits some kept upshot.NotDue = fits × IsRaisingAnd kept (λ o. IsNoneDue o)
IsUnasked fits some kept upshot.NoMemory = fits × some × IsRaisingAnd kept (λ o. IsOneDue o)
IsUnasked fits some kept other = ⊥

-- nothing is asked, and nothing is changed; or so much is asked as is handed in
abbrev pub MovesWith : {A C E : Type 0} {B : A → Type 0} {D : C → Type 0} {F : E → Type 0}
    → Type 0 → Type 0 → Option (Raising A C E B D F) → Move → Option (Raising A C E B D F) → Upshot → Type 0
MovesWith fits some kept asked after told =
    ((after ≡ kept) × IsUnasked fits some kept told) ⊎ (IsRaising kept × fits × Moves kept asked after told)

pub record TellsWith {A C E : Type 0} {B : A → Type 0} {D : C → Type 0} {F : E → Type 0} (fits some : Type 0)
    (kept : Option (Raising A C E B D F)) (asked : Move) (after : Option (Raising A C E B D F)) (number : ℕ)
    (answer : SpinAnswer) : Type 0 where
  pub told : Upshot
  pub moves : MovesWith fits some kept asked after told
  pub number_is : number ≡ number_of told
  pub answer_is : answer ≡ answer_of told

-- a raise is opened from within with these arguments
abbrev pub TellsWithin : {A C E : Type 0} {B : A → Type 0} {D : C → Type 0} {F : E → Type 0}
    → Option (Raising A C E B D F) → ℕ → List ℕ → List SpinArg → Option (Raising A C E B D F) → ℕ → SpinAnswer → Type 0
TellsWithin kept event bytes given after number answer =
    TellsWith (All (IsGiven bytes) given) (given ≢ []) kept (move.Within event (map (value_of bytes) given) tt) after
    number answer

-- these gifts are what the host's own handler gave
abbrev pub TellsGave : {A C E : Type 0} {B : A → Type 0} {D : C → Type 0} {F : E → Type 0}
    → Option (Raising A C E B D F) → List ℕ → List SpinGift → Option (Raising A C E B D F) → ℕ → SpinAnswer → Type 0
TellsGave kept bytes gifts after number answer =
    TellsWith (All (IsGift bytes) gifts) (gifts ≢ []) kept (move.Gave (map (gift_of bytes) gifts) tt) after number answer

-- ---- a raise on a lane

-- why a raise isn't begun: one is open already; or else an argument isn't given; or there was no memory for the arguments,
-- of which there are some, and the lane's handle is open on a hub that wasn't ended
abbrev pub IsUnbegun : {A C E : Type 0} {B : A → Type 0} {D : C → Type 0} {F : E → Type 0}
    → Type 0 → Type 0 → Option (Held A C E B D F) → Option (Raising A C E B D F) → Upshot → Type 0
IsUnbegun fits some kept other upshot.Open = IsRaising other
IsUnbegun fits some kept other upshot.NoArgument = IsShut other × (fits → ⊥)
IsUnbegun fits some kept other upshot.NoMemory = IsShut other × fits × some × IsOnLane kept
IsUnbegun fits some kept other why = ⊥

-- it isn't, and nothing is changed; or it is, with these arguments, where none is open
abbrev pub BeginsWith : {A C E : Type 0} {B : A → Type 0} {D : C → Type 0} {F : E → Type 0}
    → Option (Held A C E B D F) → Option (Raising A C E B D F) → ℕ → List ℕ → List SpinArg
    → Option (Held A C E B D F) → Option (Raising A C E B D F) → Upshot → Type 0
BeginsWith kept other event bytes given after raised told =
    ((after ≡ kept) × (raised ≡ other) × IsUnbegun (All (IsGiven bytes) given) (given ≢ []) kept other told)
    ⊎ (IsShut other × All (IsGiven bytes) given × Begins kept other event (map (value_of bytes) given) after raised told)

pub record TellsBegin {A C E : Type 0} {B : A → Type 0} {D : C → Type 0} {F : E → Type 0}
    (kept : Option (Held A C E B D F)) (other : Option (Raising A C E B D F)) (event : ℕ) (bytes : List ℕ)
    (given : List SpinArg) (after : Option (Held A C E B D F)) (raised : Option (Raising A C E B D F)) (number : ℕ)
    (answer : SpinAnswer) : Type 0 where
  pub told : Upshot
  pub begins : BeginsWith kept other event bytes given after raised told
  pub number_is : number ≡ number_of told
  pub answer_is : answer ≡ answer_of told

-- The call hands out bytes, which are copied, and it is told how many they are.
pub record HandsMoveBytes {A C E : Type 0} {B : A → Type 0} {D : C → Type 0} {F : E → Type 0}
    (kept : Option (Raising A C E B D F)) (asked : Move) (before : List ℕ) (after : Option (Raising A C E B D F))
    (number : ℕ) (buffer : List ℕ) (wanted : ℕ) : Type 0 where
  pub told : Upshot
  pub moves : Moves kept asked after told
  pub handed : AreHandedBy told before number buffer
  pub wanted_is : wanted ≡ (arg_of told).length
