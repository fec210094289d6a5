-- All lanes of a segment: how they must stand, and how they stand afterwards.
use Rattle.std.specs.Prelude.{◌≡◌, ℕ, ◌<◌, ◌≤◌, List, [], ◌∷◌, ◌++◌, map, length}
use Rattle.std.specs.Prelude.{All, AllPairs, Option, None, Some, sum_by, zip, slice_index_or}
use Rattle.atomic_table.specs.Seated.{TableId}
use Rattle.spin_word.specs.declared.row.Row.{Row}
use Rattle.spin_log.specs.Pens.{IsPen}
use Rattle.spin_table.specs.Setups.{SetupData}
use Rattle.spin_table.specs.States.{State, start_of}
use Rattle.spin_proto.specs.declared.deed.Job.{Job}
use Rattle.spin_proto.specs.declared.reply.Reply.{Reply}
use Rattle.spin_seat.specs.declared.answer.SeatFault.TheVariants as fault
use Rattle.spin_seat.specs.Places.{place_past}
use Rattle.spin_seat.specs.Seats.{IsSeatFrom, AreOfLanes}
use Rattle.spin_script.specs.declared.script.Line.{Line}
use Rattle.spin_script.specs.States.{deed_count}
use Rattle.spin_script.specs.Soundness.{IsValidWork}
use Rattle.spin_script.specs.Segments.{IsOnLane}
use Rattle.spin_script.specs.Checks.{most_deeds}
use Rattle.spin_report.specs.Asked.{Numbered}
use Rattle.spin_report.specs.Lines.{JobSeen, job_seen}
use Rattle.spin_report.specs.declared.entry.Entry.{Entry}
use Rattle.spin_report.specs.Segments.{IsWoven, of_lane}
use Rattle.spin_run.specs.declared.lane.Lane.{Lane}
use Rattle.spin_run.specs.declared.segment.Woven.{Woven}
use Rattle.spin_run.specs.Lanes.{HasRunLane, HasRunShort, AreJobsOf, rows_in, kept_with}
use Rattle.spin_run.specs.Trails.{IsNew, AreMarksOf, trail_of, unmarked_trail}
use Rattle.spin_seat.specs.Replay.{IsReplayFrom}

-- the front of the first lane's seat, the state on which its log follows, and the state of its version
abbrev pub front_of : List Lane → List Row
front_of [] = []
front_of (lane ∷ lanes) = lane.seat.pen.front

abbrev pub first_of : SetupData → List Lane → State
first_of d [] = start_of d
first_of d (lane ∷ lanes) = lane.seat.base

abbrev pub state_of : SetupData → List Lane → State
state_of d [] = start_of d
state_of d (lane ∷ lanes) = lane.seat.state

-- the place up to which that front goes
abbrev pub place_of : SetupData → List Lane → ℕ
place_of d lanes = place_past (first_of d lanes).place (length (front_of lanes))

-- Between two segments: the lane's seat is one of a hub with that log and so many lanes, the log follows on the first
-- state, the seat's front is this one, and nothing is answered yet.
pub record IsAtRest (d : SetupData) (log : TableId) (count : ℕ) (first : State) (front : List Row) (lane : Lane)
    : Type 0 where
  pub own : lane.seat.pen.log ≡ log
  pub among : lane.seat.pen.lanes ≡ count
  pub seat : IsSeatFrom d first lane.seat
  pub front_is : lane.seat.pen.front ≡ front
  pub trail : IsNew lane.trail
  pub jobs_are : lane.jobs ≡ []
  pub stop : lane.stop ≡ None

-- The lanes have all seats of a hub of so many lanes, the k-th that of lane k, with one first state, all fronts are
-- equal, and nothing is answered yet. So much a segment needs of its lanes.
pub record AreAtRest (d : SetupData) (log : TableId) (count : ℕ) (lanes : List Lane) : Type 0 where
  pub some : 0 < length lanes
  pub all : length lanes ≡ count
  pub order : AreOfLanes 0 (map (λ lane. lane.seat) lanes)
  pub each : All (IsAtRest d log count (first_of d lanes) (front_of lanes)) lanes

-- The same, and the lane's seat keeps no row, so that its version is that of its whole front.
pub record IsReady (d : SetupData) (log : TableId) (count : ℕ) (first : State) (front : List Row) (lane : Lane)
    : Type 0 where
  pub own : lane.seat.pen.log ≡ log
  pub among : lane.seat.pen.lanes ≡ count
  pub pen : IsPen lane.seat.pen
  pub seat : IsSeatFrom d first lane.seat
  pub whole : lane.seat.pending ≡ None
  pub front_is : lane.seat.pen.front ≡ front
  pub trail : IsNew lane.trail
  pub jobs_are : lane.jobs ≡ []
  pub stop : lane.stop ≡ None

-- The lanes have all seats of a hub of so many lanes, the k-th that of lane k, with one first state, and each is ready.
pub record AreReady (d : SetupData) (log : TableId) (count : ℕ) (lanes : List Lane) : Type 0 where
  pub some : 0 < length lanes
  pub all : length lanes ≡ count
  pub order : AreOfLanes 0 (map (λ lane. lane.seat) lanes)
  pub each : All (IsReady d log count (first_of d lanes) (front_of lanes)) lanes

-- What is needed of a segment's lines, for so many lanes: their numbers rise, each is of one of the lanes, commands are
-- valid and of their line's lane, and the deeds are at most 65,536, a packet line counting each of its records.
pub record IsFitSegment (lanes : ℕ) (lines : List Line) : Type 0 where
  pub numbers : AllPairs (λ line later. line.number < later.number) lines
  pub on_lane : All (IsOnLane lanes) lines
  pub valid : All (λ line. IsValidWork line.work) lines
  pub few : sum_by (λ line. deed_count line.work) lines ≤ most_deeds

-- as many lanes as before, each of which has run and has given the entries that stand at its place
pub record HaveRun (d : SetupData) (asked : List Numbered) (before after : List Lane) (given : List (List Entry))
    : Type 0 where
  pub count : length after ≡ length before
  pub given_count : length given ≡ length before
  pub each : (k : ℕ) (lane : Lane) → k < length before
      → HasRunLane d asked (slice_index_or before k lane) (slice_index_or after k lane) (slice_index_or given k [])

-- each of these lanes that ended for want of memory has run so far
abbrev pub HaveRunShort : SetupData → List Numbered → List Lane → List Lane → Type 0
HaveRunShort d asked before after =
    (k : ℕ) (lane : Lane) → k < length before → (slice_index_or after k lane).stop ≡ Some fault.NoMemory
    → (entries : List Entry) × HasRunShort d asked (slice_index_or before k lane) (slice_index_or after k lane) entries

-- jobs with their replies, as a report tells them
abbrev pub jobs_seen : List Job → List Reply → List JobSeen
jobs_seen jobs replies = map (λ done. job_seen done.0 done.1) (zip jobs replies)

-- the entries that a lane keeps
abbrev pub kept_at : List Lane → ℕ → Option (List Entry)
kept_at lanes lane = slice_index_or (map (λ lane. lane.entries) lanes) lane None

-- What a segment came to, in which the lanes are asked these: these entries of all lanes, of which the marks are kept,
-- answer that, from the state of the front that all lanes know before it to the one in which they stand afterwards; each
-- lane's trail has the lines and the sends of its own entries, and nothing more; a lane that keeps entries keeps its own;
-- the jobs are those that they leave, each with the version of its entry's place; and the front has grown by the rows
-- that they published, on the same first state.
pub record HasWoven (d : SetupData) (asked : List Numbered) (before after : List Lane) (woven : Woven) : Type 0 where
  pub entries : List Entry
  pub trail_count : length woven.trails ≡ length before
  pub trails_are : (k : ℕ) → k < length before → trail_of woven.trails k ≡ unmarked_trail (of_lane k entries)
  pub marks_are : AreMarksOf woven.trails woven.marks entries
  pub kept : (k : ℕ) → k < length before → kept_at after k ≡ kept_with (kept_at before k) (of_lane k entries)
  pub first_is : first_of d after ≡ first_of d before
  pub start : State
  pub start_is : IsReplayFrom d (first_of d before) (front_of before) start
  pub answers : IsWoven d (length before) asked start (state_of d after) entries (jobs_seen woven.jobs woven.replies)
  pub jobs_are : AreJobsOf d (first_of d before) entries (front_of after) woven.jobs
  pub front_is : front_of after ≡ front_of before ++ rows_in entries
