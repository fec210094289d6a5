-- The seats of all lanes meet: what each knows then.
use Rattle.std.specs.Prelude.{◌≡◌, ℕ, ◌<◌, List, length, All, None, slice_index_or}
use Rattle.atomic_table.specs.Seated.{TableId}
use Rattle.spin_word.specs.declared.row.Row.{Row}
use Rattle.spin_log.specs.Pens.{IsPen}
use Rattle.spin_table.specs.Setups.{SetupData}
use Rattle.spin_table.specs.States.{State}
use Rattle.spin_seat.specs.Seats.{IsSeatFrom}
use Rattle.spin_seat.specs.Calls.{ReadsOn}
use Rattle.spin_run.specs.declared.lane.Lane.{Lane}
use Rattle.spin_run.specs.Segments.{front_of, state_of}

-- the lane's seat is one of a hub with that setup and that log, which follows on that state
abbrev pub IsOfHub : SetupData → State → TableId → Lane → Type 0
IsOfHub d first log lane = (lane.seat.pen.log ≡ log) × IsSeatFrom d first lane.seat

-- the same of all lanes, with one first state
abbrev pub AreOfHub : SetupData → TableId → List Lane → Type 0
AreOfHub d log lanes = (first : State) × All (IsOfHub d first log) lanes

-- The lane's seat has read rows of other lanes and no more, and what it answered is as before.
pub record HasRead (d : SetupData) (before after : Lane) : Type 0 where
  pub seat : IsSeatFrom d before.seat.base after.seat
  pub reads : ReadsOn before.seat.pen after.seat.pen
  pub trail : after.trail ≡ before.trail
  pub jobs_are : after.jobs ≡ before.jobs
  pub stop : after.stop ≡ before.stop
  pub kept : after.entries ≡ before.entries

-- the lane's seat has applied all that it knows
pub record IsSettled (lane : Lane) : Type 0 where
  pub pen : IsPen lane.seat.pen
  pub whole : lane.seat.pending ≡ None

-- The lane's seat has read rows of other lanes up to this front, and has applied all of them, which comes to that
-- state.
pub record HasMet (d : SetupData) (front : List Row) (state : State) (before after : Lane) : Type 0 where
  pub read : HasRead d before after
  pub settled : IsSettled after
  pub front_is : after.seat.pen.front ≡ front
  pub state_is : after.seat.state ≡ state

-- as many lanes as before, which all know the same
abbrev pub HaveMet : SetupData → List Lane → List Lane → Type 0
HaveMet d before after =
    (length after ≡ length before)
    × ((k : ℕ) (lane : Lane) → k < length before
    → HasMet d (front_of after) (state_of d after)
    (slice_index_or before k lane) (slice_index_or after k lane))
