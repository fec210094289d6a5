-- What becomes of the seats that wait to be handed out.
use Rattle.std.specs.Prelude.{◌≡◌, ℕ, List, [], Option, None, Some, slice_get, slice_set}
use Rattle.std.specs.Arc.{arc_value}
use Rattle.spin_seat.specs.declared.party.Away.{Away}
use Rattle.spin_c.specs.Waiting.{TakesIn}
use Rattle.spin_c.specs.declared.lane.Held.{Held}
use Rattle.spin_c.specs.declared.lane.Held.TheVariants as held
use Rattle.spin_c.specs.declared.lane.Lane.{Lane}
use Rattle.spin_c.specs.declared.ask.Outcome.{Outcome}
use Rattle.spin_c.specs.declared.ask.Outcome.TheVariants as outcome

-- Below, A and B, C and D, E and F are the kinds of the boxed handlers, guards and authorisers.

-- The seat of this lane waited, and doesn't any more; it has a lane of its own, with the same hub.
pub record IsShare {A C E : Type 0} {B : A → Type 0} {D : C → Type 0}
    {F : E → Type 0} (l : Lane A C E B D F) (number : ℕ) (after share : Lane A C E B D F) : Type 0 where
  pub waited : slice_get l.waiting number ≡ Some (Some share.away)
  pub left : after ≡ record l { waiting = slice_set l.waiting number None }
  pub lane : share.away.seat.pen.lane ≡ number
  pub party : arc_value share.party ≡ arc_value l.party
  pub lanes : share.lanes ≡ l.lanes
  pub fresh : (share.reply ≡ None) × (share.waiting ≡ []) × (share.before ≡ [])

-- why none is handed out: the handle has no such lane; its seat is out; or it waits, and there was no memory
abbrev pub IsNoShare : List (Option Away) → ℕ → Outcome → Type 0
IsNoShare waiting number outcome.NoLane = slice_get waiting number ≡ None
IsNoShare waiting number outcome.Taken = slice_get waiting number ≡ Some None
IsNoShare waiting number outcome.NoMemory = (away : Away) × (slice_get waiting number ≡ Some (Some away))
IsNoShare waiting number other = ⊥

-- So it is after seats were taken in that came home.
pub record IsShared {A C E : Type 0} {B : A → Type 0} {D : C → Type 0}
    {F : E → Type 0} (l : Lane A C E B D F) (number : ℕ) (after share : Lane A C E B D F) : Type 0 where
  pub whole : Lane A C E B D F
  pub taken : TakesIn l whole
  pub shared : IsShare whole number after share

-- what an open handle and a closed one hold afterwards, and what is answered
abbrev pub SharesTo : {A C E : Type 0} {B : A → Type 0} {D : C → Type 0} {F : E → Type 0}
    → Held A C E B D F → ℕ → Held A C E B D F → Option (Held A C E B D F) → Outcome → Type 0
SharesTo (held.Lane l) number (held.Lane after) (Some (held.Lane share)) told =
    IsShared l number after share × (told ≡ outcome.Done)
SharesTo (held.Lane l) number (held.Lane after) None told = TakesIn l after × IsNoShare after.waiting number told
SharesTo (held.Lane l) number after share told = ⊥
SharesTo (held.Ended rows) number after share told =
    (after ≡ held.Ended rows) × (share ≡ None) × (told ≡ outcome.Ended)

-- of two handles the first hands a seat out to the second, where that one is closed; else both are as they were
abbrev pub Shares : {A C E : Type 0} {B : A → Type 0} {D : C → Type 0} {F : E → Type 0}
    → Option (Held A C E B D F) → Option (Held A C E B D F) → ℕ
    → Option (Held A C E B D F) → Option (Held A C E B D F) → Outcome → Type 0
Shares None other number after share told = (after ≡ None) × (share ≡ other) × (told ≡ outcome.Closed)
Shares (Some h) (Some other) number after share told =
    (after ≡ Some h) × (share ≡ Some other) × (told ≡ outcome.Open)
Shares (Some h) None number None share told = ⊥
Shares (Some h) None number (Some after) share told = SharesTo h number after share told
