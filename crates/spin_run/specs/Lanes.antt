-- What one lane does in a segment.
use Rattle.std.specs.Prelude.{◌≡◌, ◌≢◌, ◌⊎◌, ◌+◌, ℕ, ⊤, true, List, [], ◌∷◌, ◌++◌, map, length, take, All, Option, Some, None}
use Rattle.std.specs.List.{flat_map, filter_map}
use Rattle.std.specs.Arc.{arc_value}
use Rattle.spin_word.specs.declared.row.Row.{Row}
use Rattle.spin_word.specs.declared.work.Work.{Work}
use Rattle.spin_word.specs.declared.work.Work.TheVariants as work
use Rattle.spin_log.specs.Pens.{PenValue, IsSamePen}
use Rattle.spin_table.specs.Setups.{SetupData}
use Rattle.spin_table.specs.States.{State}
use Rattle.spin_table.specs.Soundness.{IsSoundVersion}
use Rattle.spin_table.specs.declared.refusal.Verdicted.{Verdicted}
use Rattle.spin_proto.specs.declared.deed.JobCall.{JobCall}
use Rattle.spin_proto.specs.declared.deed.Job.{Job}
use Rattle.spin_proto.specs.Replies.{BelongsTo}
use Rattle.spin_seat.specs.declared.answer.SeatFault.{SeatFault}
use Rattle.spin_seat.specs.declared.answer.SeatFault.TheVariants as fault
use Rattle.spin_seat.specs.Replay.{IsReplayFrom}
use Rattle.spin_seat.specs.Places.{rows_past}
use Rattle.spin_seat.specs.Seats.{SeatValue, IsSeatFrom}
use Rattle.spin_seat.specs.Calls.{ReadsOn, GivesFrom, IsFaultAt, IsUnrefused, verdict_answer}
use Rattle.spin_seat.specs.Answers as seat
use Rattle.spin_seat.specs.Runs.{RanFrom, GainsPinsPast}
use Rattle.spin_script.specs.Soundness.{is_command_work}
use Rattle.spin_report.specs.declared.entry.What.{What}
use Rattle.spin_report.specs.declared.entry.What.TheVariants as what
use Rattle.spin_report.specs.declared.entry.Entry.{Entry}
use Rattle.spin_report.specs.Jobs.{answer_calls}
use Rattle.spin_report.specs.Asked.{Numbered, asked_of}
use Rattle.spin_report.specs.Segments.{asked_of_lane}
use Rattle.spin_run.specs.declared.lane.Lane.{Lane}
use Rattle.spin_run.specs.Trails.{IsNew, IsTrailOf}

-- ---- new lanes

-- nothing was answered yet
abbrev pub IsFresh : Lane → Type 0
IsFresh lane = IsNew lane.trail × (lane.jobs ≡ []) × (lane.stop ≡ None)

-- ---- an entry as the answer of a seat

abbrev pub said_of : What → seat.Exchange
said_of (what.Command command verdict) = seat.command command verdict
said_of (what.Deed deed reply) = seat.deed deed reply

abbrev pub seat_answer : Entry → seat.Answer
seat_answer entry = record { lane = entry.lane; place = entry.place; said = said_of entry.what }

-- the rows that accepted commands have published, in the order of their entries
abbrev pub rows_in : List Entry → List Row
rows_in entries = filter_map (λ entry. seat.row_published (said_of entry.what)) entries

-- ---- the jobs that entries leave

-- a job as it is told: the place, lane, line and part of its entry, which of the entry's jobs it is, and its call
pub record JobAsked : Type 0 where
  pub place : ℕ
  pub lane : ℕ
  pub line : ℕ
  pub part : ℕ
  pub index : ℕ
  pub call : JobCall

abbrev pub job_asked : Job → JobAsked
job_asked job = record {
  place = job.place;
  lane = job.lane;
  line = job.line;
  part = job.part;
  index = job.index;
  call = job.call;
}

abbrev pub jobs_from : Entry → ℕ → List JobCall → List JobAsked
jobs_from entry index [] = []
jobs_from entry index (call ∷ calls) =
    record {
      place = entry.place;
      lane = entry.lane;
      line = entry.line;
      part = entry.part;
      index = index;
      call = call;
    } ∷ jobs_from entry (index + 1) calls

-- the jobs of an entry, with indexes from 0
abbrev pub jobs_of : Entry → List JobAsked
jobs_of entry = jobs_from entry 0 (answer_calls entry.what)

-- These are the jobs of the entries, in order; each has the version of its place in the log, which follows on the first
-- state and begins with this front, and it is sound, and its call belongs to it.
pub record AreJobsOf (d : SetupData) (first : State) (entries : List Entry) (front : List Row) (jobs : List Job)
    : Type 0 where
  pub asked : map job_asked jobs ≡ flat_map jobs_of entries
  pub versions : All (λ (job : Job). IsReplayFrom d first (take (rows_past first.place job.place) front)
      (arc_value job.version).state) jobs
  pub sound : All (λ (job : Job). IsSoundVersion d (arc_value job.version)) jobs
  pub calls : All (λ (job : Job). BelongsTo (arc_value job.version).state job.call) jobs

-- ---- one lane

abbrev pub BeginsWithCommand : List Numbered → Type 0
BeginsWithCommand [] = ⊥
BeginsWithCommand (next ∷ rest) = is_command_work next.asked ≡ true

-- A lane that is asked these deeds in a segment has given these entries and left these jobs, while the pen of its seat,
-- whose log follows on that state, came from the first value to the second: the entries are those of a front of the
-- deeds, and of all of them where there is no stop; a stop is `Full` only where no place is left in the log and the next
-- deed is a command.
pub record RanLane (d : SetupData) (first : State) (deeds : List Numbered) (before after : PenValue)
    (trail : List Entry) (jobs : List Job) (stop : Option SeatFault) : Type 0 where
  pub ran : RanFrom d first before (map seat_answer trail) after
  pub pins : GainsPinsPast first.place before (map seat_answer trail) after
  pub left : List Numbered
  pub deeds_are : deeds ≡ map asked_of trail ++ left
  pub whole : stop ≡ None → left ≡ []
  pub full : stop ≡ Some fault.Full → IsFaultAt first.place (length after.front) fault.Full × BeginsWithCommand left
  pub jobs_are : AreJobsOf d first trail after.front jobs

-- the lane didn't end for want of memory
abbrev pub HadMemory : Option SeatFault → Type 0
HadMemory stop = stop ≢ Some fault.NoMemory

-- There was no memory for what is asked of a seat, whose pen had that value, in a log that follows on that state, and
-- which came to this one. A command has its verdict, and there was no memory for the entry; or it has none, and want of
-- memory is no refusal of it.
abbrev pub LacksFor : SetupData → State → PenValue → Work → SeatValue → Type 0
LacksFor d first pen (work.Command c) after =
    ((place : ℕ) × (verdict : Verdicted) × GivesFrom d first pen (verdict_answer pen.lane c place verdict) after.pen)
    ⊎ (ReadsOn pen after.pen × IsUnrefused d after c fault.NoMemory)
LacksFor d first pen (work.Deed deed) after = ⊤
LacksFor d first pen (work.Packet event count) after = ⊤

-- A lane that is asked these deeds in a segment ended for want of memory: while the pen of its seat, whose log follows on
-- that state, came from the first value to another, it gave these entries, which answer a front of the deeds; and there was
-- none for the next one, at which the seat came to the second value.
pub record RanShort (d : SetupData) (first : State) (deeds : List Numbered) (before : PenValue) (after : SeatValue)
    (entries : List Entry) : Type 0 where
  pub pen : PenValue
  pub ran : RanFrom d first before (map seat_answer entries) pen
  pub pins : GainsPinsPast first.place before (map seat_answer entries) pen
  pub next : Numbered
  pub left : List Numbered
  pub deeds_are : deeds ≡ map asked_of entries ++ next ∷ left
  pub lacks : LacksFor d first pen next.asked after

-- so it is of a lane in a segment in which all lanes are asked these
abbrev pub HasRunShort : SetupData → List Numbered → Lane → Lane → List Entry → Type 0
HasRunShort d asked before after entries =
    RanShort d before.seat.base (asked_of_lane before.seat.pen.lane asked) before.seat.pen after.seat entries

-- The entries that a lane keeps once it has given these, too: none where it keeps none.
abbrev pub kept_with : Option (List Entry) → List Entry → Option (List Entry)
kept_with None given = None
kept_with (Some kept) given = Some (kept ++ given)

-- How a lane stands after a segment in which all lanes are asked these, beside how it stood before, where it has given
-- these entries: its seat is still that of its lane; where it had memory it has done its own, its trail is that of the
-- entries, and it keeps them if it keeps entries; and where it had none, it has done a front of them.
pub record HasRunLane (d : SetupData) (asked : List Numbered) (before after : Lane) (entries : List Entry)
    : Type 0 where
  pub seat : IsSeatFrom d before.seat.base after.seat
  pub same : IsSamePen before.seat.pen after.seat.pen
  pub ran : HadMemory after.stop
      → RanLane d before.seat.base (asked_of_lane before.seat.pen.lane asked)
      before.seat.pen after.seat.pen entries after.jobs after.stop
  pub told : HadMemory after.stop → IsTrailOf entries after.trail
  pub kept : HadMemory after.stop → after.entries ≡ kept_with before.entries entries
  pub short : after.stop ≡ Some fault.NoMemory → HasRunShort d asked before after entries
