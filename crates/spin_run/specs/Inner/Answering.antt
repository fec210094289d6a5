-- What the steps of a lane's run say.
use Rattle.std.specs.Prelude.{◌≡◌, ◌+◌, ℕ, List, [], ◌∷◌, ◌++◌, map, length, All, Result, Ok, Err}
use Rattle.std.specs.List.{enumerate_from}
use Rattle.std.specs.Arc.{arc_value}
use Rattle.spin_log.specs.Pens.{PenValue, IsSamePen}
use Rattle.spin_table.specs.Setups.{SetupData}
use Rattle.spin_table.specs.States.{State, VersionValue}
use Rattle.spin_proto.specs.declared.deed.JobCall.{JobCall}
use Rattle.spin_proto.specs.declared.deed.Job.{Job}
use Rattle.spin_proto.specs.Replies.{BelongsTo}
use Rattle.spin_seat.specs.declared.answer.SeatFault.{SeatFault}
use Rattle.spin_seat.specs.declared.answer.SeatFault.TheVariants as fault
use Rattle.spin_seat.specs.Seats.{IsSeatFrom}
use Rattle.spin_seat.specs.Calls.{IsFaultAt}
use Rattle.spin_seat.specs.Runs.{RanFrom, GainsPinsPast}
use Rattle.spin_report.specs.declared.entry.Entry.{Entry}
use Rattle.spin_word.specs.declared.work.Work.{Work}
use Rattle.spin_report.specs.Asked.{Numbered, asked_of}
use Rattle.spin_report.specs.Segments.{raise_with}
use Rattle.spin_run.specs.declared.lane.Lane.{Lane}
use Rattle.spin_run.specs.Trails.{IsTrailOf}
use Rattle.spin_run.specs.Lanes.{seat_answer, job_asked, jobs_from, AreJobsOf, BeginsWithCommand, IsFresh, LacksFor, kept_with}

-- Since its pen had that value, the lane, whose log follows on the first state, has given these entries and left their
-- jobs.
pub record HasAnswered (d : SetupData) (first : State) (before : PenValue) (given : List Entry) (lane : Lane)
    : Type 0 where
  pub ran : RanFrom d first before (map seat_answer given) lane.seat.pen
  pub pins : GainsPinsPast first.place before (map seat_answer given) lane.seat.pen
  pub jobs_are : AreJobsOf d first given lane.seat.pen.front lane.jobs
  pub told : IsTrailOf given lane.trail

-- the lane answers these, by entries that it gives behind those that it has given
pub record Answers (d : SetupData) (asked : List Numbered) (old new : Lane) : Type 0 where
  pub added : List Entry
  pub asked_are : map asked_of added ≡ asked
  pub count : length new.trail.marks ≡ length old.trail.marks + length added
  pub first : new.seat.base ≡ old.seat.base
  pub kept : new.entries ≡ kept_with old.entries added
  pub goes_on : (before : PenValue) (given : List Entry)
      → HasAnswered d old.seat.base before given old → HasAnswered d old.seat.base before (given ++ added) new

-- The lane answers the first of these, and ends before a command, since no place is left in the log.
pub record EndsFull (d : SetupData) (asked : List Numbered) (old new : Lane) : Type 0 where
  pub first : List Numbered
  pub left : List Numbered
  pub parts : asked ≡ first ++ left
  pub answers : Answers d first old new
  pub full : IsFaultAt old.seat.base.place (length new.seat.pen.front) fault.Full
  pub next : BeginsWithCommand left

-- The lane answers the first of these, and then there is no memory for the next one.
pub record EndsShort (d : SetupData) (asked : List Numbered) (old new : Lane) : Type 0 where
  pub first : List Numbered
  pub middle : Lane
  pub answers : Answers d first old middle
  pub next : Numbered
  pub left : List Numbered
  pub parts : asked ≡ first ++ next ∷ left
  pub lacks : LacksFor d old.seat.base middle.seat.pen next.asked new.seat

-- what becomes of a lane that is asked these
abbrev pub Comes : SetupData → List Numbered → Lane → Result (Unit {0}) SeatFault → Lane → Type 0
Comes d asked old (Ok done) new = Answers d asked old new
Comes d asked old (Err fault.Full) new = EndsFull d asked old new
Comes d asked old (Err fault.NoMemory) new = EndsShort d asked old new

-- the lane's seat is still that of its lane
abbrev pub Stays : SetupData → Lane → Lane → Type 0
Stays d old new = IsSeatFrom d old.seat.base new.seat × IsSamePen old.seat.pen new.seat.pen

-- ---- jobs

-- the job is left by that entry, on that version, to which its call belongs
pub record IsLeftBy (entry : Entry) (version : VersionValue) (job : Job) : Type 0 where
  pub place : job.place ≡ entry.place
  pub version_is : arc_value job.version ≡ version
  pub call : BelongsTo version.state job.call

-- jobs with these calls are added, with indexes from 0
pub record AddsJobs (entry : Entry) (version : VersionValue) (calls : List JobCall) (old new : List Job) : Type 0 where
  pub added : List Job
  pub jobs_are : new ≡ old ++ added
  pub asked : map job_asked added ≡ jobs_from entry 0 calls
  pub each : All (IsLeftBy entry version) added

-- ---- what is asked

-- one thing that is asked
abbrev pub asked_alone : ℕ → ℕ → ℕ → Work → List Numbered
asked_alone lane line part asked =
    record { lane = lane; line = line; part = part; asked = asked } ∷ []

-- a raise with each of these records, whose parts are counted from that number on
abbrev pub asked_packets : ℕ → ℕ → ℕ → ℕ → List (List ℕ) → List Numbered
asked_packets lane line event from records =
    map (λ (part : ℕ × Work). record { lane = lane; line = line; part = part.0; asked = part.1 })
    (map (λ (part : ℕ × List ℕ). (part.0, raise_with event part.1)) (enumerate_from from records))

-- ---- new lanes

abbrev pub AreFresh : List Lane → Type 0
AreFresh lanes = All IsFresh lanes
