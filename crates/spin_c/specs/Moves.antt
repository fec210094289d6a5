-- What becomes of an open raise by what its host asks, and what that comes to.
use Rattle.std.specs.Prelude.{◌≡◌, ◌-◌, ◌++◌, ◌==◌, ◌⊎◌, ℕ, Bool, true, false, List, [], Option, None, Some, ⊤}
use Rattle.std.specs.Prelude.{MatchOption, Result, Err, is_some, length, slice_get}
use Rattle.std.specs.Arc.{arc_value}
use Rattle.spin_values.specs.declared.values.Value.{Value}
use Rattle.spin_values.specs.declared.values.Value.TheVariants as value
use Rattle.spin_values.specs.declared.types.EventType.{EventType}
use Rattle.spin_objects.specs.declared.item.Item.{Item}
use Rattle.spin_proto.specs.Replies.{units_in}
use Rattle.spin_raise.specs.Firing.{Bound}
use Rattle.spin_host.specs.declared.fault.RaiseFault.{RaiseFault}
use Rattle.spin_host.specs.declared.fault.RaiseFault.TheVariants as unraised
use Rattle.spin_host.specs.declared.firing.AnswerFault.{AnswerFault}
use Rattle.spin_host.specs.declared.firing.AnswerFault.TheVariants as fault
use Rattle.spin_host.specs.declared.gift.Given.{Given}
use Rattle.spin_host.specs.declared.open.OpenRaise.{OpenRaise}
use Rattle.spin_host.specs.declared.turn.Turn.{Turn}
use Rattle.spin_host.specs.declared.turn.Turn.TheVariants as turn
use Rattle.spin_host.specs.declared.upward.Upward.{Upward}
use Rattle.spin_host.specs.Frames.{Tells, answer_fault, due_in}
use Rattle.spin_host.specs.Levels.{IsAtTop, IsTurn, IsWithin, OnTop, ups_in}
use Rattle.spin_host.specs.Opening.{within_fault}
use Rattle.spin_host.specs.OpenRaises.{Fate, Declined, Done, Gave}
use Rattle.spin_c.specs.declared.moves.Move.{Move}
use Rattle.spin_c.specs.declared.moves.Move.TheVariants as move
use Rattle.spin_c.specs.declared.moves.Upshot.{Upshot}
use Rattle.spin_c.specs.declared.moves.Upshot.TheVariants as upshot
use Rattle.spin_c.specs.declared.raising.Opened.{Opened}
use Rattle.spin_c.specs.declared.raising.Raising.{Raising}
use Rattle.spin_c.specs.declared.raising.Raising.TheVariants as raising
use Rattle.spin_c.specs.Raisings.{IsIdle, IsOpenAnd, setup_of}
use Rattle.spin_c.specs.Uttered.{fault_told, item_bytes, item_told, refusal_told, turn_told}

-- Below, A and B, C and D, E and F are the kinds of the boxed handlers, guards and authorisers.

-- ---- raises from within

-- it is opened, on the version of this place; or there was no memory, and nothing is changed
abbrev pub IsWithinOrNot : ℕ → List Value → OpenRaise → OpenRaise → Upshot → Type 0
IsWithinOrNot event args o o' told =
    (IsWithin event args o o' × (told ≡ upshot.Begun (arc_value o.version).state.place))
    ⊎ ((o' ≡ o) × (told ≡ upshot.NoMemory))

-- so it is where nothing is at fault; else it is told what is, and nothing is changed
abbrev pub OpensWithin : {A C E : Type 0} {B : A → Type 0} {D : C → Type 0} {F : E → Type 0}
    → Opened A C E B D F → ℕ → List Value → OpenRaise → Upshot → Type 0
OpensWithin o event args o' told =
    OnTop (setup_of o) o.raise
    (λ sig e. MatchOption
    (within_fault (setup_of o) o.raise.top.frame.event (is_some (due_in e o.raise.top.frame)) event args)
    (IsWithinOrNot event args o.raise o' told)
    (λ why. (o' ≡ o.raise) × (told ≡ refusal_told (arc_value o.raise.version).state.place why)))

-- ---- what comes next

-- a raise ends around which there are so many, which is the outermost one
abbrev pub is_last : Turn → ℕ → Bool
is_last (turn.Ended said) around = around == 0
is_last t around = false

-- none is open any more, or that one is
abbrev pub IsLeft : {A C E : Type 0} {B : A → Type 0} {D : C → Type 0} {F : E → Type 0}
    → Bool → Opened A C E B D F → Raising A C E B D F → Type 0
IsLeft true o after = IsIdle after
IsLeft false o after = after ≡ raising.Open o

-- What comes next is told, by the number of raises around the innermost one; what was given is gone.
pub record IsNextTold {A C E : Type 0} {B : A → Type 0} {D : C → Type 0} {F : E → Type 0}
    (o : Opened A C E B D F) (after : Raising A C E B D F) (told : Upshot) : Type 0 where
  pub next : Turn
  pub raise : OpenRaise
  pub comes : IsTurn (setup_of o) o.raise.top.ups o.raise next raise
  pub gone : raise.given ≡ []
  pub left : IsLeft (is_last next (length o.raise.below)) (record o { raise = raise }) after
  pub told_is : told ≡ upshot.Told (turn_told (length o.raise.below) next)

-- so it is, or there was no memory, and none is open any more
abbrev pub TellsNext : {A C E : Type 0} {B : A → Type 0} {D : C → Type 0} {F : E → Type 0}
    → Opened A C E B D F → Raising A C E B D F → Upshot → Type 0
TellsNext o after told = IsNextTold o after told ⊎ (IsIdle after × (told ≡ upshot.NoMemory))

-- ---- answers

-- What is due has this fate: that is one firing more of the same raise, whatever was told before. It gave what is
-- appended, of which these raises upwards are still to be opened; and how much is given so far is told.
pub record IsAnswered {A C E : Type 0} {B : A → Type 0} {D : C → Type 0} {F : E → Type 0}
    (sig : EventType) (e : Bound) (fate : Fate) (ups : List Item → List Upward)
    (o : Opened A C E B D F) (after : Raising A C E B D F) (told : Upshot) : Type 0 where
  pub raise : OpenRaise
  pub left : after ≡ raising.Open (record o { raise = raise })
  pub tells : Tells (units_in (setup_of o)) sig e fate o.raise.top.frame raise.top.frame o.raise.given raise.given
  pub ups_are : raise.top.ups ≡ o.raise.top.ups ++ ups raise.given
  pub same : IsAtTop o.raise raise × (raise.started ≡ o.raise.started)
  pub told_is : told ≡ upshot.Gave (length raise.given)

-- so it is, or there was no memory, and none is open any more
abbrev pub IsAnsweredOrLost : {A C E : Type 0} {B : A → Type 0} {D : C → Type 0} {F : E → Type 0}
    → EventType → Bound → Fate → (List Item → List Upward)
    → Opened A C E B D F → Raising A C E B D F → Upshot → Type 0
IsAnsweredOrLost sig e fate ups o after told =
    IsAnswered sig e fate ups o after told ⊎ (IsIdle after × (told ≡ upshot.NoMemory))

-- what is left where an answer isn't taken: for want of memory none is open any more, and else nothing is changed
abbrev pub IsLeftBy : {A C E : Type 0} {B : A → Type 0} {D : C → Type 0} {F : E → Type 0}
    → AnswerFault → Raising A C E B D F → Raising A C E B D F → Type 0
IsLeftBy fault.NoMemory r after = IsIdle after
IsLeftBy other r after = after ≡ r

-- the raises upwards that an act asks for in a raise of this event
abbrev pub ups_by : {A C E : Type 0} {B : A → Type 0} {D : C → Type 0} {F : E → Type 0}
    → Opened A C E B D F → List Item → List Upward
ups_by o given = ups_in o.raise.top.frame.event (length (setup_of o).events) given

-- the declared act of what is due is done, where something is
abbrev pub DoesAct : {A C E : Type 0} {B : A → Type 0} {D : C → Type 0} {F : E → Type 0}
    → Opened A C E B D F → Raising A C E B D F → Upshot → Type 0
DoesAct o after told =
    OnTop (setup_of o) o.raise
    (λ sig e. MatchOption (due_in e o.raise.top.frame)
    ((after ≡ raising.Open o) × (told ≡ upshot.NotDue))
    (λ n. IsAnsweredOrLost sig e Done (ups_by o) o after told))

-- what the host's own handler gave is taken, where nothing is at fault; else it is told what is, and nothing is changed
abbrev pub TakesGift : {A C E : Type 0} {B : A → Type 0} {D : C → Type 0} {F : E → Type 0}
    → Opened A C E B D F → List Given → Raising A C E B D F → Upshot → Type 0
TakesGift o gift after told =
    OnTop (setup_of o) o.raise
    (λ sig e. MatchOption (answer_fault sig (due_in e o.raise.top.frame) gift)
    (IsAnsweredOrLost sig e (Gave gift) (λ given. []) o after told)
    (λ why. (after ≡ raising.Open o) × (told ≡ fault_told why)))

-- What is due is passed over: that is one firing more, which started no handler and gave nothing.
pub record IsPassedOver {A C E : Type 0} {B : A → Type 0} {D : C → Type 0} {F : E → Type 0}
    (sig : EventType) (e : Bound) (o : Opened A C E B D F) (o' : OpenRaise) (told : Upshot) : Type 0 where
  pub tells : Tells (units_in (setup_of o)) sig e Declined o.raise.top.frame o'.top.frame [] []
  pub started : o'.started ≡ o.raise.started - 1
  pub args : o'.top.frame.progress.args ≡ o.raise.top.frame.progress.args
  pub answer : o'.top.frame.progress.answer ≡ o.raise.top.frame.progress.answer
  pub same : IsAtTop o.raise o' × (o'.given ≡ o.raise.given) × (o'.top.ups ≡ o.raise.top.ups)
  pub told_is : told ≡ upshot.Done

-- so it is, where something is due
abbrev pub Declines : {A C E : Type 0} {B : A → Type 0} {D : C → Type 0} {F : E → Type 0}
    → Opened A C E B D F → OpenRaise → Upshot → Type 0
Declines o o' told =
    OnTop (setup_of o) o.raise
    (λ sig e. MatchOption (due_in e o.raise.top.frame)
    ((o' ≡ o.raise) × (told ≡ upshot.NotDue))
    (λ n. IsPassedOver sig e o o' told))

-- ---- what is read

-- an argument is handed out; of bytes a copy, where there is memory for it
abbrev pub IsArgument : Option Value → Upshot → Type 0
IsArgument None told = told ≡ upshot.NoArgument
IsArgument (Some (value.Word word)) told = told ≡ upshot.Word word
IsArgument (Some (value.Bytes bytes)) told = (told ≡ upshot.Bytes bytes) ⊎ (told ≡ upshot.NoMemory)

-- what was given in a raise of an event is told
abbrev pub given_told : ℕ → Option Item → Upshot
given_told event None = upshot.NoStep
given_told event (Some item) = upshot.Told (item_told event item)

-- a copy of the bytes that it sends is handed out, where there is memory for it
abbrev pub IsSent : Option Item → Upshot → Type 0
IsSent None told = told ≡ upshot.NoStep
IsSent (Some item) told = (told ≡ upshot.Bytes (item_bytes item)) ⊎ (told ≡ upshot.NoMemory)

-- ---- want of memory

-- whether a firing is due, by what a raise of event 0 from within is told
abbrev pub due_by : {T : Type 0} → Result T RaiseFault → Bool
due_by (Err unraised.NotDue) = false
due_by other = true

-- what is told where there was no memory for what is handed in
abbrev pub missed_if : Bool → Upshot
missed_if true = upshot.NoMemory
missed_if false = upshot.NotDue

-- There was none, which is told where a firing is due; else that none is.
pub record IsMissed {A C E : Type 0} {B : A → Type 0} {D : C → Type 0} {F : E → Type 0} (o : Opened A C E B D F)
    (told : Upshot) : Type 0 where
  pub due : Bool
  pub due_is : OnTop (setup_of o) o.raise (λ sig e. due ≡ is_some (due_in e o.raise.top.frame))
  pub told_is : told ≡ missed_if due

-- ---- a call

-- what is asked does this to the raise that is open
abbrev pub MovesOpen : {A C E : Type 0} {B : A → Type 0} {D : C → Type 0} {F : E → Type 0}
    → Opened A C E B D F → Move → Raising A C E B D F → Upshot → Type 0
MovesOpen o move.Lend after told = (after ≡ raising.Open o) × (told ≡ upshot.Lent tt)
MovesOpen o move.LendIdle after told = (after ≡ raising.Open o) × (told ≡ upshot.Open)
MovesOpen o (move.Miss spare) after told = (after ≡ raising.Open o) × IsMissed o told
MovesOpen o (move.Within event args spare) after told =
    IsOpenAnd after (λ o'. (o'.party ≡ o.party) × OpensWithin o event args o'.raise told)
MovesOpen o move.Next after told = TellsNext o after told
MovesOpen o (move.Argument index) after told =
    (after ≡ raising.Open o) × IsArgument (slice_get o.raise.top.frame.progress.args index) told
MovesOpen o move.Do after told = DoesAct o after told
MovesOpen o (move.Given index) after told =
    (after ≡ raising.Open o) × (told ≡ given_told o.raise.top.frame.event (slice_get o.raise.given index))
MovesOpen o (move.GivenBytes index) after told =
    (after ≡ raising.Open o) × IsSent (slice_get o.raise.given index) told
MovesOpen o (move.Gave gift spare) after told = TakesGift o gift after told
MovesOpen o move.Decline after told = IsOpenAnd after (λ o'. (o'.party ≡ o.party) × Declines o o'.raise told)
MovesOpen o move.Abandon after told = IsIdle after × (told ≡ upshot.Done)
MovesOpen o other after told = (after ≡ raising.Open o) × (told ≡ upshot.Done)

-- where none is open its room is lent and taken back, and nothing else is done
abbrev pub idle_told : Move → Upshot
idle_told move.LendIdle = upshot.Lent tt
idle_told (move.Keep spare) = upshot.Done
idle_told other = upshot.Closed

-- a closed handle lends room of its own
abbrev pub closed_told : Move → Upshot
closed_told move.LendIdle = upshot.Lent tt
closed_told other = upshot.Closed

-- what is asked does this to what a handle holds, but for closing it
abbrev pub MovesIn : {A C E : Type 0} {B : A → Type 0} {D : C → Type 0} {F : E → Type 0}
    → Raising A C E B D F → Move → Raising A C E B D F → Upshot → Type 0
MovesIn (raising.Idle room) asked after told = (after ≡ raising.Idle room) × (told ≡ idle_told asked)
MovesIn (raising.Open o) asked after told = MovesOpen o asked after told

abbrev pub MovesHeld : {A C E : Type 0} {B : A → Type 0} {D : C → Type 0} {F : E → Type 0}
    → Raising A C E B D F → Move → Option (Raising A C E B D F) → Upshot → Type 0
MovesHeld r move.Forget after told = (after ≡ None) × (told ≡ upshot.Done)
MovesHeld r asked None told = ⊥
MovesHeld r asked (Some after) told = MovesIn r asked after told

abbrev pub Moves : {A C E : Type 0} {B : A → Type 0} {D : C → Type 0} {F : E → Type 0}
    → Option (Raising A C E B D F) → Move → Option (Raising A C E B D F) → Upshot → Type 0
Moves None asked after told = (after ≡ None) × (told ≡ closed_told asked)
Moves (Some r) asked after told = MovesHeld r asked after told

-- what is asked leaves a raise open that is open
abbrev pub IsStaying : Move → Type 0
IsStaying move.Next = ⊥
IsStaying move.Do = ⊥
IsStaying (move.Gave gift spare) = ⊥
IsStaying move.Abandon = ⊥
IsStaying move.Forget = ⊥
IsStaying other = ⊤
