-- A hub that is renewed: what its seats must be, and what they are afterwards.
use Rattle.std.specs.Prelude.{◌≡◌, ℕ, ◌<◌, ◌≤◌, List, All, Any, None, length, slice_index_or}
use Rattle.spin_word.specs.declared.command.TheConstants.{MAX_PLACE}
use Rattle.spin_word.specs.declared.row.Row.{Row}
use Rattle.spin_log.specs.Pens.{LogValue}
use Rattle.spin_table.specs.Setups.{SetupData}
use Rattle.spin_table.specs.States.{State}
use Rattle.spin_table.specs.Soundness.{IsSound}
use Rattle.spin_table.specs.Renewals.{NameGiven, live_numbers, renewed}
use Rattle.spin_seat.specs.declared.renewal.RenewFault.{RenewFault}
use Rattle.spin_seat.specs.declared.renewal.RenewFault.TheVariants as fault
use Rattle.spin_seat.specs.Replay.{IsReplayFrom}
use Rattle.spin_seat.specs.Seats.{SeatValue, IsSeat, IsSeatFrom, AreOfLanes}
use Rattle.spin_seat.specs.Calls.{ReadsOn}

-- these are all seats of that log: the k-th is lane k's, and the log follows on one first state
pub record AreAllSeats (d : SetupData) (log : LogValue) (seats : List SeatValue) : Type 0 where
  pub some : 0 < log.lanes
  pub own : All (λ (seat : SeatValue). seat.pen.log ≡ log.id) seats
  pub all : length seats ≡ log.lanes
  pub order : AreOfLanes 0 seats
  pub first : State
  pub seats_are : All (IsSeatFrom d first) seats

-- the seat may have read rows of other lanes and applied them, and all else is as before
pub record KnowsMore (d : SetupData) (before after : SeatValue) : Type 0 where
  pub seat : IsSeat d after
  pub first : after.base ≡ before.base
  pub reads : ReadsOn before.pen after.pen

-- the same of each of these seats
abbrev pub KnowMore : SetupData → List SeatValue → List SeatValue → Type 0
KnowMore d before after =
    (length after ≡ length before)
    × ((k : ℕ) (seat : SeatValue) → k < length before
    → KnowsMore d (slice_index_or before k seat) (slice_index_or after k seat))

-- what these seats know together comes to that state from the first one: it is the replay of the longest of
-- their fronts
pub record IsTotalFrom (d : SetupData) (first : State) (seats : List SeatValue) (state : State)
    : Type 0 where
  pub front : List Row
  pub known : Any (λ (seat : SeatValue). seat.pen.front ≡ front) seats
  pub longest : All (λ (seat : SeatValue). length seat.pen.front ≤ length front) seats
  pub replay : IsReplayFrom d first front state

-- that seat keeps no row, and no seat of these knows more
abbrev pub KnowsAllOf : SeatValue → List SeatValue → Type 0
KnowsAllOf first seats =
    (first.pending ≡ None)
    × All (λ (seat : SeatValue). length seat.pen.front ≤ length first.pen.front) seats

-- the first of the seats knows what all know
abbrev pub FirstKnowsAll : List SeatValue → Type 0
FirstKnowsAll seats = (seat : SeatValue) → KnowsAllOf (slice_index_or seats 0 seat) seats

-- why these seats aren't renewed: no number would be left for a further binding; or there was no memory, and one would
-- be left, so far as the first seat knows already what all know
abbrev pub IsFaultOf : SetupData → State → List SeatValue → RenewFault → Type 0
IsFaultOf d first seats fault.Full =
    (state : State) × IsTotalFrom d first seats state × (MAX_PLACE ≤ length (live_numbers state))
IsFaultOf d first seats fault.NoMemory =
    FirstKnowsAll seats → (seat : SeatValue) → length (live_numbers (slice_index_or seats 0 seat).state) < MAX_PLACE

-- The rows come to a state, whose live bindings have these numbers. The log of the new seats follows on that
-- state renewed, and there is room in it.
pub record IsRenewal (d : SetupData) (first : State) (rows : List Row) (live : List ℕ)
    (seats : List SeatValue) : Type 0 where
  pub last : State
  pub replay : IsReplayFrom d first rows last
  pub sound : IsSound d last
  pub given : NameGiven last
  pub numbers : live ≡ live_numbers last
  pub room : length live < MAX_PLACE
  pub seats_are : All (IsSeatFrom d (renewed last)) seats
