-- How a raise is opened on the version of a lane.
use Rattle.std.specs.Prelude.{◌≡◌, ◌⊎◌, ℕ, List, Option, None, Some, MatchOption, length}
use Rattle.std.specs.Arc.{arc_value}
use Rattle.spin_values.specs.declared.values.Value.{Value}
use Rattle.spin_table.specs.SetupOf.{data_of}
use Rattle.spin_table.specs.Setups.{SetupData}
use Rattle.spin_seat.specs.Calls.{AddsAtMostAPin, ReadsToPin}
use Rattle.spin_seat.specs.Places.{place_past}
use Rattle.spin_seat.specs.Replay.{IsReplayFrom}
use Rattle.spin_seat.specs.Seats.{SeatValue, version_of}
use Rattle.spin_host.specs.Levels.{IsBegun}
use Rattle.spin_host.specs.Opening.{begin_fault}
use Rattle.spin_c.specs.declared.lane.Held.{Held}
use Rattle.spin_c.specs.declared.lane.Held.TheVariants as held
use Rattle.spin_c.specs.declared.lane.Lane.{Lane}
use Rattle.spin_c.specs.declared.moves.Upshot.{Upshot}
use Rattle.spin_c.specs.declared.moves.Upshot.TheVariants as upshot
use Rattle.spin_c.specs.declared.raising.Raising.{Raising}
use Rattle.spin_c.specs.declared.raising.Raising.TheVariants as raising
use Rattle.spin_c.specs.Raisings.{IsIdle, IsOpenAnd}
use Rattle.spin_c.specs.Uttered.{refusal_told}
use Rattle.spin_c.specs.Waiting.{KeepsHub}

-- Below, A and B, C and D, E and F are the kinds of the boxed handlers, guards and authorisers.

-- The seat reads rows on until there is no next one, and has a pin there, at this place; its state is the replay of the
-- rows up to there.
pub record IsPinned (d : SetupData) (seat after : SeatValue) (place : ℕ) : Type 0 where
  pub reads : ReadsToPin seat.pen after.pen
  pub replay : IsReplayFrom d seat.base after.pen.front after.state
  pub place_is : place ≡ place_past seat.base.place (length after.pen.front)

-- a raise is open on the seat's version, with a share of the lane's hub
abbrev pub IsOpened : {A C E : Type 0} {B : A → Type 0} {D : C → Type 0} {F : E → Type 0}
    → Lane A C E B D F → ℕ → List Value → Raising A C E B D F → Type 0
IsOpened l event args raised =
    IsOpenAnd raised
    (λ o. (arc_value o.party ≡ arc_value l.party) × IsBegun (version_of l.away.seat) event args o.raise)

-- The lane's seat is pinned. Where the event is there and the arguments fit it, a raise is opened on that state; else it
-- is told why not, and none is open.
pub record IsBegunOn {A C E : Type 0} {B : A → Type 0} {D : C → Type 0} {F : E → Type 0} (l : Lane A C E B D F)
    (event : ℕ) (args : List Value) (after : Lane A C E B D F) (raised : Raising A C E B D F) (told : Upshot)
    : Type 0 where
  pub place : ℕ
  pub pinned : IsPinned (data_of (arc_value l.party).hub.setup) l.away.seat after.away.seat place
  pub begun :
      MatchOption (begin_fault (data_of (arc_value l.party).hub.setup) event args)
      (IsOpened after event args raised × (told ≡ upshot.Begun place))
      (λ why. IsIdle raised × (told ≡ refusal_told place why))

-- so it is; or there was no memory, the seat may have read on, and none is open; nothing else of the lane is changed
abbrev pub BeginsOn : {A C E : Type 0} {B : A → Type 0} {D : C → Type 0} {F : E → Type 0}
    → Lane A C E B D F → ℕ → List Value → Lane A C E B D F → Raising A C E B D F → Upshot → Type 0
BeginsOn l event args after raised told =
    KeepsHub l after × (after.reply ≡ l.reply)
    × (IsBegunOn l event args after raised told
    ⊎ (AddsAtMostAPin l.away.seat.pen after.away.seat.pen × IsIdle raised × (told ≡ upshot.NoMemory)))

-- an open handle whose hub wasn't ended has a lane on which one is opened
abbrev pub BeginsHeld : {A C E : Type 0} {B : A → Type 0} {D : C → Type 0} {F : E → Type 0}
    → Held A C E B D F → ℕ → List Value → Held A C E B D F → Raising A C E B D F → Upshot → Type 0
BeginsHeld (held.Lane l) event args (held.Lane after) raised told = BeginsOn l event args after raised told
BeginsHeld (held.Lane l) event args (held.Ended rows) raised told = ⊥
BeginsHeld (held.Ended rows) event args after raised told =
    (after ≡ held.Ended rows) × IsIdle raised × (told ≡ upshot.Ended)

-- where a raise is open already nothing is done
abbrev pub BeginsIn : {A C E : Type 0} {B : A → Type 0} {D : C → Type 0} {F : E → Type 0}
    → Held A C E B D F → Raising A C E B D F → ℕ → List Value
    → Held A C E B D F → Raising A C E B D F → Upshot → Type 0
BeginsIn h (raising.Open o) event args after raised told =
    (after ≡ h) × (raised ≡ raising.Open o) × (told ≡ upshot.Open)
BeginsIn h (raising.Idle room) event args after raised told = BeginsHeld h event args after raised told

-- what is told where there is no memory: on a hub that was ended none is wanted
abbrev pub missed_on : {A C E : Type 0} {B : A → Type 0} {D : C → Type 0} {F : E → Type 0} → Held A C E B D F → Upshot
missed_on (held.Lane l) = upshot.NoMemory
missed_on (held.Ended rows) = upshot.Ended

-- a handle that was closed has room of its own then; or there was no memory for that
abbrev pub BeginsTo : {A C E : Type 0} {B : A → Type 0} {D : C → Type 0} {F : E → Type 0}
    → Held A C E B D F → Option (Raising A C E B D F) → ℕ → List Value
    → Held A C E B D F → Option (Raising A C E B D F) → Upshot → Type 0
BeginsTo h None event args after None told = (after ≡ h) × (told ≡ missed_on h)
BeginsTo h None event args after (Some raised) told = BeginsHeld h event args after raised told
BeginsTo h (Some r) event args after None told = ⊥
BeginsTo h (Some r) event args after (Some raised) told = BeginsIn h r event args after raised told

-- on a closed handle of a lane nothing is done
abbrev pub Begins : {A C E : Type 0} {B : A → Type 0} {D : C → Type 0} {F : E → Type 0}
    → Option (Held A C E B D F) → Option (Raising A C E B D F) → ℕ → List Value
    → Option (Held A C E B D F) → Option (Raising A C E B D F) → Upshot → Type 0
Begins None other event args after raised told = (after ≡ None) × (raised ≡ other) × (told ≡ upshot.Closed)
Begins (Some h) other event args None raised told = ⊥
Begins (Some h) other event args (Some after) raised told = BeginsTo h other event args after raised told
