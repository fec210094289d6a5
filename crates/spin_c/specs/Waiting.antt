-- What holds of every lane that a handle holds, and the seats that wait at one to be handed out.
use Rattle.std.specs.Prelude.{◌≡◌, ◌≢◌, ◌+◌, ◌≤◌, ◌⊎◌, ℕ, List, ◌∷◌, [], All, Option, None, Some, IfSome}
use Rattle.std.specs.Prelude.{drop, filter, is_none, length, map, vec_capacity, ⊤}
use Rattle.std.specs.Arc.{arc_value}
use Rattle.spin_log.specs.Pens.{new_pens}
use Rattle.spin_table.specs.SetupOf.{data_of}
use Rattle.spin_table.specs.States.{State, start_of}
use Rattle.spin_homes.specs.Rule.{TicketValue}
use Rattle.spin_seat.specs.Seats.{AreFrom, SeatValue}
use Rattle.spin_seat.specs.Parties.{IsAway, IsWellParty}
use Rattle.spin_seat.specs.declared.party.Away.{Away}
use Rattle.spin_seat.specs.declared.party.Party.{Party}
use Rattle.spin_c.specs.Jobs.{IsWellLeft}
use Rattle.spin_c.specs.declared.lane.Held.{Held}
use Rattle.spin_c.specs.declared.lane.Held.TheVariants as held
use Rattle.spin_c.specs.declared.lane.Lane.{Lane}
use Rattle.spin_c.specs.declared.lane.Room.{Room}

-- Below, A and B, C and D, E and F are the kinds of the boxed handlers, guards and authorisers.

-- ---- seats that wait

-- the seat is away from the home of that lane, in a party whose log follows on that state
abbrev pub IsAwayAt : {A C E : Type 0} {B : A → Type 0} {D : C → Type 0} {F : E → Type 0}
    → Party A C E B D F → State → ℕ → Away → Type 0
IsAwayAt p first lane away = IsAway p first lane away.ticket away.seat

-- from this lane on, whatever waits at the index of a lane fits that lane
abbrev pub AreWaiting : (ℕ → Away → Type 0) → ℕ → List (Option Away) → Type 0
AreWaiting fits lane [] = ⊤
AreWaiting fits lane (None ∷ slots) = AreWaiting fits (lane + 1) slots
AreWaiting fits lane (Some away ∷ slots) = fits lane away × AreWaiting fits (lane + 1) slots

-- what waited waits on, and where none did there may be one now that came home and fits the lane
abbrev pub AreTakenIn : (ℕ → Away → Type 0) → ℕ → List (Option Away) → List (Option Away) → Type 0
AreTakenIn fits lane [] [] = ⊤
AreTakenIn fits lane (Some away ∷ slots) (now ∷ after) = (now ≡ Some away) × AreTakenIn fits (lane + 1) slots after
AreTakenIn fits lane (None ∷ slots) (None ∷ after) = AreTakenIn fits (lane + 1) slots after
AreTakenIn fits lane (None ∷ slots) (Some away ∷ after) = fits lane away × AreTakenIn fits (lane + 1) slots after
AreTakenIn fits lane slots after = ⊥

-- a seat waits
abbrev pub IsHome : Option Away → Type 0
IsHome None = ⊥
IsHome (Some away) = ⊤

-- those that wait
abbrev pub present : List (Option Away) → List Away
present [] = []
present (None ∷ slots) = present slots
present (Some away ∷ slots) = away ∷ present slots

-- how many don't
abbrev pub missing : List (Option Away) → ℕ
missing slots = length (filter (λ slot. is_none slot) slots)

-- ---- lanes

-- there is room for so many seats, and their tickets
abbrev pub HasRoom : ℕ → Room → Type 0
HasRoom lanes room = (lanes ≤ vec_capacity room.seats) × (lanes ≤ vec_capacity room.tickets)

-- none waits at the seat, or it is that of lane 0, and others may wait at it: one for each lane, with room for all
abbrev pub IsWhole : ℕ → SeatValue → List (Option Away) → Room → Type 0
IsWhole lanes seat waiting room =
    (waiting ≡ []) ⊎ ((seat.pen.lane ≡ 0) × (length waiting ≡ lanes) × HasRoom lanes room)

-- The seat is away from its home in the party, and so are those that wait at it.
pub record IsWellAt {A C E : Type 0} {B : A → Type 0} {D : C → Type 0} {F : E → Type 0} (p : Party A C E B D F)
    (away : Away) (waiting : List (Option Away)) (room : Room) : Type 0 where
  pub party : IsWellParty p away.seat.base
  pub own : IsAwayAt p away.seat.base away.seat.pen.lane away
  pub others : AreWaiting (IsAwayAt p away.seat.base) 0 waiting
  pub whole : IsWhole p.hub.log.lanes away.seat waiting room

-- so it is of a lane, and the jobs can be done that the reply leaves that is kept
abbrev pub IsWellLane : {A C E : Type 0} {B : A → Type 0} {D : C → Type 0} {F : E → Type 0} → Lane A C E B D F → Type 0
IsWellLane l =
    IsWellAt (arc_value l.party) l.away l.waiting l.room × IsWellLeft (data_of (arc_value l.party).hub.setup) l.reply

-- what a handle holds is a lane that is so; or if it is one it is so
abbrev pub IsLaneAnd : {A C E : Type 0} {B : A → Type 0} {D : C → Type 0} {F : E → Type 0}
    → Held A C E B D F → (Lane A C E B D F → Type 0) → Type 0
IsLaneAnd (held.Lane l) so = so l
IsLaneAnd (held.Ended rows) so = ⊥

abbrev pub IfLane : {A C E : Type 0} {B : A → Type 0} {D : C → Type 0} {F : E → Type 0}
    → Held A C E B D F → (Lane A C E B D F → Type 0) → Type 0
IfLane (held.Lane l) so = so l
IfLane (held.Ended rows) so = ⊤

-- a handle is open, on a hub that wasn't ended
abbrev pub IsOnLane : {A C E : Type 0} {B : A → Type 0} {D : C → Type 0} {F : E → Type 0}
    → Option (Held A C E B D F) → Type 0
IsOnLane None = ⊥
IsOnLane (Some h) = IsLaneAnd h (λ l. ⊤)

-- so it is of what a handle holds
abbrev pub IsWell : {A C E : Type 0} {B : A → Type 0} {D : C → Type 0} {F : E → Type 0}
    → Option (Held A C E B D F) → Type 0
IsWell kept = IfSome kept (λ h. IfLane h (λ l. IsWellLane l))

-- a raise or a command leaves the party, the state on which its log follows, the ticket, the seats that wait, the old
-- numbers, and how many lanes there are
abbrev pub KeepsHub : {A C E : Type 0} {B : A → Type 0} {D : C → Type 0} {F : E → Type 0}
    → Lane A C E B D F → Lane A C E B D F → Type 0
KeepsHub l after =
    (after.party ≡ l.party) × (after.away.seat.base ≡ l.away.seat.base) × (after.away.ticket ≡ l.away.ticket)
    × (after.waiting ≡ l.waiting) × (after.room ≡ l.room) × (after.before ≡ l.before) × (after.lanes ≡ l.lanes)

-- The lane takes in seats that came home, and nothing else of it changes.
pub record TakesIn {A C E : Type 0} {B : A → Type 0} {D : C → Type 0}
    {F : E → Type 0} (l after : Lane A C E B D F) : Type 0 where
  pub waiting : AreTakenIn (IsAwayAt (arc_value l.party) l.away.seat.base) 0 l.waiting after.waiting
  pub same : after ≡ record l { waiting = after.waiting }

-- no other lane's seat is out
abbrev pub AreHome : List (Option Away) → Type 0
AreHome waiting = (waiting ≢ []) × All IsHome (drop 1 waiting)

-- the lane's seat, and those of other lanes that wait at it
abbrev pub seats_at : {A C E : Type 0} {B : A → Type 0} {D : C → Type 0} {F : E → Type 0}
    → Lane A C E B D F → List SeatValue
seats_at l = map (λ (away : Away). away.seat) (l.away ∷ present (drop 1 l.waiting))

-- One has the first of these seats with its ticket, and the others wait, each with its own.
pub record AreLaid (seats : List SeatValue) (tickets : List TicketValue) (away : Away) (waiting : List (Option Away))
    : Type 0 where
  pub others : List Away
  pub seats_are : seats ≡ map (λ (a : Away). a.seat) (away ∷ others)
  pub tickets_are : tickets ≡ map (λ (a : Away). a.ticket) (away ∷ others)
  pub waiting_is : waiting ≡ None ∷ map Some others

-- The lane is the first of so many of a new hub over its setup, whose others wait; no reply is kept, and nothing was
-- renewed.
pub record IsStarted {A C E : Type 0} {B : A → Type 0} {D : C → Type 0}
    {F : E → Type 0} (lanes : ℕ) (l : Lane A C E B D F) : Type 0 where
  pub seats : List SeatValue
  pub tickets : List TicketValue
  pub laid : AreLaid seats tickets l.away l.waiting
  pub pens : map (λ (seat : SeatValue). seat.pen) seats ≡ new_pens (arc_value l.party).hub.log.id lanes
  pub first : AreFrom (start_of (data_of (arc_value l.party).hub.setup)) seats
  pub fresh : (l.reply ≡ None) × (l.before ≡ []) × (l.lanes ≡ lanes)
