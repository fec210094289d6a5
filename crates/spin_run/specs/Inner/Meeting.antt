-- One meeting, and one round of meetings.
use Rattle.std.specs.Prelude.{◌≡◌, ◌≢◌, ℕ, ◌<◌, List, length, slice_index_or}
use Rattle.spin_word.specs.declared.row.Row.{Row}
use Rattle.spin_log.specs.Rows.{IsPrefix}
use Rattle.spin_log.specs.Steps.{longer}
use Rattle.spin_table.specs.Setups.{SetupData}
use Rattle.spin_run.specs.declared.lane.Lane.{Lane}
use Rattle.spin_run.specs.Meetings.{HasRead, IsSettled}

abbrev pub lane_at : List Lane → ℕ → Lane → Lane
lane_at lanes k lane = slice_index_or lanes k lane

abbrev pub front_at : List Lane → ℕ → Lane → List Row
front_at lanes k lane = (lane_at lanes k lane).seat.pen.front

-- the first lane's seat has applied all that it knows
abbrev pub FirstIsSettled : List Lane → Type 0
FirstIsSettled lanes = (l : Lane) → IsSettled (lane_at lanes 0 l)

-- the first lane has applied what it had read, and the others are as before
pub record SettledFirst (d : SetupData) (before after : List Lane) : Type 0 where
  pub len : length after ≡ length before
  pub first : (l : Lane) → HasRead d (lane_at before 0 l) (lane_at after 0 l) × IsSettled (lane_at after 0 l)
  pub others : (i : ℕ) (l : Lane) → i ≢ 0 → lane_at after i l ≡ lane_at before i l

-- the first lane and lane k have met: both have the longer front of the two, and the others are as before
pub record Met (d : SetupData) (before : List Lane) (k : ℕ) (after : List Lane) : Type 0 where
  pub len : length after ≡ length before
  pub first : (l : Lane) → HasRead d (lane_at before 0 l) (lane_at after 0 l) × IsSettled (lane_at after 0 l)
  pub second : (l : Lane) → HasRead d (lane_at before k l) (lane_at after k l) × IsSettled (lane_at after k l)
  pub front : (l : Lane) → front_at after 0 l ≡ longer (front_at before 0 l) (front_at before k l)
  pub same : (l : Lane) → front_at after k l ≡ front_at after 0 l
  pub others : (i : ℕ) (l : Lane) → i ≢ 0 → i ≢ k → lane_at after i l ≡ lane_at before i l

-- the first lane knows what each lane knows
abbrev pub FirstKnowsAll : List Lane → Type 0
FirstKnowsAll lanes =
    (i : ℕ) (l : Lane) → i < length lanes → IsPrefix (front_at lanes i l) (front_at lanes 0 l)

-- The first lane has met each other one: it knows what each knows then, and where it did so before, all know the same.
pub record HadRound (d : SetupData) (before after : List Lane) : Type 0 where
  pub len : length after ≡ length before
  pub read : (i : ℕ) (l : Lane) → i < length before → HasRead d (lane_at before i l) (lane_at after i l)
  pub settled : (i : ℕ) (l : Lane) → i < length before → IsSettled (lane_at after i l)
  pub gathered : FirstKnowsAll after
  pub spread : FirstKnowsAll before
      → (i : ℕ) (l : Lane) → i < length before → front_at after i l ≡ front_at after 0 l
