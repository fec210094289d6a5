-- What becomes of a lane whose hub is renewed or ended.
use Rattle.std.specs.Prelude.{◌≡◌, ◌≢◌, ◌⊎◌, ℕ, List, [], All, Option, None, Some, drop, length, map, slice_get}
use Rattle.std.specs.Arc.{arc_value}
use Rattle.spin_word.specs.declared.row.Row.{Row}
use Rattle.spin_log.specs.Pens.{new_pens}
use Rattle.spin_homes.specs.Rule.{TicketValue}
use Rattle.spin_table.specs.SetupOf.{data_of}
use Rattle.spin_table.specs.Setups.{SetupData}
use Rattle.spin_table.specs.States.{State}
use Rattle.spin_seat.specs.Replay.{IsCleanFrom}
use Rattle.spin_seat.specs.Seats.{AreFrom, SeatValue}
use Rattle.spin_seat.specs.Weaves.{AnswersAreLegalFrom}
use Rattle.spin_seat.specs.RenewedHubs.{IsFaultOf, IsRenewal, KnowMore}
use Rattle.spin_seat.specs.declared.party.Away.{Away}
use Rattle.spin_seat.specs.declared.party.Party.{Party}
use Rattle.spin_seat.specs.declared.renewal.RenewFault.{RenewFault}
use Rattle.spin_seat.specs.declared.renewal.RenewFault.TheVariants as fault
use Rattle.spin_c.specs.Waiting.{AreHome, AreLaid, IsHome, TakesIn, missing, seats_at}
use Rattle.spin_c.specs.declared.lane.Held.{Held}
use Rattle.spin_c.specs.declared.lane.Held.TheVariants as held
use Rattle.spin_c.specs.declared.lane.Lane.{Lane}
use Rattle.spin_c.specs.declared.ask.Outcome.{Outcome}
use Rattle.spin_c.specs.declared.ask.Outcome.TheVariants as outcome

-- Below, A and B, C and D, E and F are the kinds of the boxed handlers, guards and authorisers.

-- ---- gathering

-- seats that came home are taken in, and it is told how many are out; but not at a handle that was handed out
abbrev pub Gathers : {A C E : Type 0} {B : A → Type 0} {D : C → Type 0} {F : E → Type 0}
    → Lane A C E B D F → Lane A C E B D F → Outcome → Type 0
Gathers l after (outcome.Out count) =
    (l.waiting ≢ []) × TakesIn l after × (count ≡ missing (drop 1 after.waiting))
Gathers l after outcome.NoLane = (l.waiting ≡ []) × (after ≡ l)
Gathers l after other = ⊥

-- Why the hub of a lane is left as it is, which took in what came home: the lane was handed out; some seat is out; or
-- none is, and the library doesn't hand the hub out of what its handles share, since no statement says when that
-- succeeds.
abbrev pub IsLeft : List (Option Away) → Outcome → Type 0
IsLeft waiting outcome.NoLane = waiting ≡ []
IsLeft waiting outcome.Taken = (waiting ≢ []) × (All IsHome (drop 1 waiting) → ⊥)
IsLeft waiting outcome.Shared = AreHome waiting
IsLeft waiting other = ⊥

-- The rows are clean, and with all that these seats answered they are one legal history.
pub record IsHistoryOf (d : SetupData) (seats : List SeatValue) (rows : List Row) : Type 0 where
  pub clean : (first : State) → AreFrom first seats → IsCleanFrom d first rows
  pub legal : (first : State) → AreFrom first seats → AnswersAreLegalFrom d first seats rows

-- ---- renewals

-- The rows of the old log are clean, and with all that its seats answered one legal history. The new seats are all at
-- that history's end renewed, in a new log over the same setup; these are the numbers that the live bindings had.
pub record IsMoved {A C E : Type 0} {B : A → Type 0} {D : C → Type 0} {F : E → Type 0} (p : Party A C E B D F)
    (seats : List SeatValue) (after : Party A C E B D F) (live : List ℕ) (away : Away) (waiting : List (Option Away))
    : Type 0 where
  pub rows : List Row
  pub new_seats : List SeatValue
  pub tickets : List TicketValue
  pub laid : AreLaid new_seats tickets away waiting
  pub setup : after.hub.setup ≡ p.hub.setup
  pub pens : map (λ (seat : SeatValue). seat.pen) new_seats ≡ new_pens after.hub.log.id p.hub.log.lanes
  pub renewal :
      (first : State) → AreFrom first seats → IsRenewal (data_of p.hub.setup) first rows live new_seats
  pub history : IsHistoryOf (data_of p.hub.setup) seats rows

-- The hub is as it was, and its seats, each of which may have read on; and it is so why.
pub record IsStayed {A C E : Type 0} {B : A → Type 0} {D : C → Type 0} {F : E → Type 0} (p : Party A C E B D F)
    (seats : List SeatValue) (after : Party A C E B D F) (why : RenewFault) (away : Away)
    (waiting : List (Option Away)) : Type 0 where
  pub new_seats : List SeatValue
  pub tickets : List TicketValue
  pub laid : AreLaid new_seats tickets away waiting
  pub party : after ≡ p
  pub more : KnowMore (data_of p.hub.setup) seats new_seats
  pub fault : (first : State) → AreFrom first seats → IsFaultOf (data_of p.hub.setup) first new_seats why

-- so it is of a lane, whose reply is forgotten
abbrev pub IsRenewed : {A C E : Type 0} {B : A → Type 0} {D : C → Type 0} {F : E → Type 0}
    → Lane A C E B D F → Lane A C E B D F → Type 0
IsRenewed l after =
    IsMoved (arc_value l.party) (seats_at l) (arc_value after.party) after.before after.away after.waiting
    × (after.reply ≡ None) × (after.lanes ≡ l.lanes)

-- or whose reply and old numbers stay
abbrev pub IsUnrenewed : {A C E : Type 0} {B : A → Type 0} {D : C → Type 0} {F : E → Type 0}
    → Lane A C E B D F → RenewFault → Lane A C E B D F → Type 0
IsUnrenewed l why after =
    IsStayed (arc_value l.party) (seats_at l) (arc_value after.party) why after.away after.waiting
    × (after.reply ≡ l.reply) × (after.before ≡ l.before) × (after.lanes ≡ l.lanes)

-- what it comes to where no seat is out
abbrev pub RenewsAll : {A C E : Type 0} {B : A → Type 0} {D : C → Type 0} {F : E → Type 0}
    → Lane A C E B D F → Lane A C E B D F → Outcome → Type 0
RenewsAll l after outcome.Done = IsRenewed l after
RenewsAll l after outcome.Full = IsUnrenewed l fault.Full after
RenewsAll l after outcome.NoMemory = IsUnrenewed l fault.NoMemory after
RenewsAll l after other = ⊥

-- the same, or the lane is left as it is
abbrev pub RenewsWhole : {A C E : Type 0} {B : A → Type 0} {D : C → Type 0} {F : E → Type 0}
    → Lane A C E B D F → Lane A C E B D F → Outcome → Type 0
RenewsWhole l after told =
    ((after ≡ l) × IsLeft l.waiting told) ⊎ (AreHome l.waiting × RenewsAll l after told)

-- So it is of a lane after it took in what came home.
pub record RenewsTo {A C E : Type 0} {B : A → Type 0} {D : C → Type 0}
    {F : E → Type 0} (l after : Lane A C E B D F) (told : Outcome) : Type 0 where
  pub whole : Lane A C E B D F
  pub taken : TakesIn l whole
  pub renews : RenewsWhole whole after told

abbrev pub fault_told : RenewFault → Outcome
fault_told fault.Full = outcome.Full
fault_told fault.NoMemory = outcome.NoMemory

-- the number at an index of those that the bindings had
abbrev pub number_at : Option ℕ → Outcome
number_at None = outcome.NoBinding
number_at (Some number) = outcome.Before number

abbrev pub number_before : List ℕ → ℕ → Outcome
number_before before index = number_at (slice_get before index)

-- ---- ends

-- What it comes to where no seat is out: the rows of the log, with all that the seats answered, are one legal history,
-- and it is told how many they are; or there was no memory, and the lane is as it was.
abbrev pub EndsAll : {A C E : Type 0} {B : A → Type 0} {D : C → Type 0} {F : E → Type 0}
    → Lane A C E B D F → Held A C E B D F → Outcome → Type 0
EndsAll l (held.Ended rows) (outcome.Rows count) =
    IsHistoryOf (data_of (arc_value l.party).hub.setup) (seats_at l) rows × (count ≡ length rows)
EndsAll l (held.Lane after) outcome.NoMemory = after ≡ l
EndsAll l after other = ⊥

-- the same, or the lane is left as it is
abbrev pub EndsWhole : {A C E : Type 0} {B : A → Type 0} {D : C → Type 0} {F : E → Type 0}
    → Lane A C E B D F → Held A C E B D F → Outcome → Type 0
EndsWhole l after told =
    ((after ≡ held.Lane l) × IsLeft l.waiting told) ⊎ (AreHome l.waiting × EndsAll l after told)

-- So it is of a lane after it took in what came home.
pub record EndsTo {A C E : Type 0} {B : A → Type 0} {D : C → Type 0}
    {F : E → Type 0} (l : Lane A C E B D F) (after : Held A C E B D F) (told : Outcome) : Type 0 where
  pub whole : Lane A C E B D F
  pub taken : TakesIn l whole
  pub ends : EndsWhole whole after told

-- the row at an index of a log
abbrev pub row_found : Option Row → Outcome
row_found None = outcome.NoRow
row_found (Some row) = outcome.Row row

abbrev pub row_at : List Row → ℕ → Outcome
row_at rows index = row_found (slice_get rows index)
