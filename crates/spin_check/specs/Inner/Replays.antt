-- The replay of a segment's entries.
use Rattle.std.specs.Prelude.{◌≡◌, ◌≤◌, ◌+◌, ℕ, ◌<◌, Bool, true, false, List, [], ◌∷◌, ◌++◌}
use Rattle.std.specs.Prelude.{map, drop, length, All, Option, None, Some, ⊤, slice_set}
use denote.Ref.{Bor}
use Rattle.std.specs.Arc.{arc_value}
use Rattle.std.specs.List.{flat_map}
use Rattle.std.specs.Ordering.{is_lt}
use Rattle.spin_code.specs.declared.test.Test.{Test}
use Rattle.spin_table.specs.Setups.{SetupData}
use Rattle.spin_table.specs.States.{State, VersionValue}
use Rattle.spin_table.specs.Soundness.{IsSoundVersion}
use Rattle.spin_text.specs.Words.{ended, text_of}
use Rattle.spin_proto.specs.Replies.{BelongsTo}
use Rattle.spin_report.specs.declared.entry.Entry.{Entry}
use Rattle.spin_report.specs.Asked.{asked_of}
use Rattle.spin_report.specs.Lines.{JobSeen, entry_line, job_line}
use Rattle.spin_report.specs.Legal.{IsNextEntry, IsLegal}
use Rattle.spin_report.specs.Jobs.{answer_calls, AreJobsFrom, AreJobs}
use Rattle.spin_report.specs.Segments.{moment, moment_cmp, of_lane, IsInOrder}
use Rattle.spin_report.specs.Runs.{sends_of, sends_of_reply}
use Rattle.spin_check.specs.declared.deeds.Ask.{Ask}
use Rattle.spin_check.specs.declared.answer.Answered.{Answered}
use Rattle.spin_check.specs.Inner.Asks.{numbered, queue_of, left_of, commands_left}
use Rattle.spin_check.specs.Inner.Standings.{numbers_of}

-- Where a replay stands: the state and the tests of its version, what the lanes are still to do, where the last entry
-- stood in the order, what is left of the report, the lines that are owed behind the entries, and the endpoints that
-- entries and jobs sent to.
pub record At : Type 0 where
  pub state : State
  pub tests : List Test
  pub queues : List (List Ask)
  pub last : Option (ℕ × Bool × ℕ × ℕ × ℕ)
  pub rest : List ℕ
  pub owed : List ℕ
  pub sends : List ℕ
  pub job_sends : List ℕ

-- its version
abbrev pub version_at : At → VersionValue
version_at at = record { state = at.state; tests = at.tests }

-- The entry doesn't stand before that one.
abbrev pub Follows : Option (ℕ × Bool × ℕ × ℕ × ℕ) → Entry → Type 0
Follows None entry = ⊤
Follows (Some last) entry = is_lt (moment_cmp (moment entry) last) ≡ false

-- the first thing that the lane is still to do is what the entry answers
abbrev pub IsFirstOf : List (List Ask) → Entry → Type 0
IsFirstOf queues entry =
    (ask : Ask) × (others : List Ask) × (queue_of entry.lane queues ≡ ask ∷ others)
    × (numbered ask ≡ asked_of entry)

-- The entry may come next, leads to that state, and its line is what the report begins with.
pub record IsNext (d : SetupData) (at : At) (entry : Entry) (next : State) (more : List ℕ)
    : Type 0 where
  pub there : entry.lane < length at.queues
  pub asked : IsFirstOf at.queues entry
  pub answers : IsNextEntry d at.state entry next
  pub order : Follows at.last entry
  pub text : at.rest ≡ ended (entry_line entry) ++ more

-- the sends of jobs
abbrev pub sent_by_jobs : List JobSeen → List ℕ
sent_by_jobs jobs = numbers_of (flat_map (λ job. sends_of_reply job.reply) jobs)

-- what the lanes are still to do behind the entry
abbrev pub queues_after : Entry → List (List Ask) → List (List Ask)
queues_after entry queues = slice_set queues entry.lane (drop 1 (queue_of entry.lane queues))

-- The replay goes on by this entry with these jobs.
pub record Replays (d : SetupData) (at : At) (entry : Entry) (own : List JobSeen) (after : At)
    : Type 0 where
  pub next : IsNext d at entry after.state after.rest
  pub queues : after.queues ≡ queues_after entry at.queues
  pub last : after.last ≡ Some (moment entry)
  pub jobs : AreJobsFrom d after.state entry 0 (answer_calls entry.what) own
  pub owed : after.owed ≡ at.owed ++ text_of (map job_line own)
  pub sends : after.sends ≡ at.sends ++ numbers_of (sends_of entry.what)
  pub job_sends : after.job_sends ≡ at.job_sends ++ sent_by_jobs own

-- Each entry that may come next is this one.
abbrev pub IsOnlyNext : SetupData → At → Entry → At → Type 0
IsOnlyNext d at entry after =
    (e : Entry) (next : State) (more : List ℕ) → IsNext d at e next more
    → (e ≡ entry) × (next ≡ after.state) × (more ≡ after.rest)

-- The lanes' entries, each lane's once and in its order, lead from there to that state, and their lines are what the
-- report begins with.
pub record AreRead (d : SetupData) (at : At) (entries : List Entry) (last : State)
    (more : List ℕ) : Type 0 where
  pub legal : IsLegal d at.state entries last
  pub once : (k : ℕ) → k < length at.queues → map asked_of (of_lane k entries) ≡ left_of k at.queues
  pub lanes_are : All (λ entry. entry.lane < length at.queues) entries
  pub text : at.rest ≡ text_of (map entry_line entries) ++ more

-- The entries are read, and stand in order.
abbrev pub AreEntries : SetupData → At → List Entry → State → List ℕ → Type 0
AreEntries d at entries last more = AreRead d at entries last more × IsInOrder entries

-- The replay has come from its start over these entries, and these are their jobs.
pub record HasReplayed (d : SetupData) (start : At) (entries : List Entry) (jobs : List JobSeen)
    (at : At) : Type 0 where
  pub read : AreEntries d start entries at.state at.rest
  pub jobs_are : AreJobs d start.state entries jobs
  pub owed : at.owed ≡ text_of (map job_line jobs)
  pub sends : at.sends ≡ numbers_of (flat_map (λ entry. sends_of entry.what) entries)
  pub job_sends : at.job_sends ≡ sent_by_jobs jobs
  pub only : (es : List Entry) (last : State) (more : List ℕ) → AreEntries d start es last more
      → es ≡ entries

-- no entry may come next
abbrev pub HasNoNext : SetupData → At → Type 0
HasNoNext d at = (e : Entry) (next : State) (more : List ℕ) → IsNext d at e next more → ⊥

-- the lines of the jobs, behind those that are owed, are longer than that
abbrev pub AreLonger : ℕ → List ℕ → List JobSeen → Type 0
AreLonger room owed jobs = room < length (owed ++ text_of (map job_line jobs))

-- The jobs of an entry are done, and their lines and the numbers that they send to added; false where their lines are
-- longer than the room for them.
abbrev pub DidJobs : SetupData → State → Entry → ℕ → List ℕ × List ℕ → List ℕ × List ℕ → Bool → Type 0
DidJobs d state entry room before after true =
    (own : List JobSeen) × AreJobsFrom d state entry 0 (answer_calls entry.what) own
    × (after.0 ≡ before.0 ++ text_of (map job_line own)) × (after.1 ≡ before.1 ++ sent_by_jobs own)
DidJobs d state entry room before after false =
    (own : List JobSeen) → AreJobsFrom d state entry 0 (answer_calls entry.what) own
    → AreLonger room before.0 own

-- The replay goes on by the one entry that may come next. None where no entry may, or where the lines of the jobs so
-- far and of the entry's own are longer than what is left of the report behind it.
abbrev pub GoesOn : SetupData → At → Option At → Type 0
GoesOn d at None =
    (e : Entry) (next : State) (more : List ℕ) → IsNext d at e next more
    → (own : List JobSeen) → AreJobsFrom d next e 0 (answer_calls e.what) own
    → AreLonger (length more) at.owed own
GoesOn d at (Some after) =
    (entry : Entry) × (own : List JobSeen) × Replays d at entry own after × IsOnlyNext d at entry after
    × IsSoundVersion d (version_at after)

-- a replay that stands at this version, with this left to do and to read, and these numbers and lines collected
abbrev pub at_of : VersionValue → List (List Ask) → Option (ℕ × Bool × ℕ × ℕ × ℕ) → List ℕ → List ℕ → List ℕ → List ℕ → At
at_of version queues last rest owed sends job_sends = record {
  state = version.state;
  tests = version.tests;
  queues = queues;
  last = last;
  rest = rest;
  owed = owed;
  sends = sends;
  job_sends = job_sends;
}

-- The entry that may come next, and what the lanes are still to do behind it; none where no entry may.
abbrev pub IsFound : SetupData → At → List (List Ask) → Option (Answered × Bor (List ℕ)) → Type 0
IsFound d at queues None = HasNoNext d at
IsFound d at queues (Some found) =
    IsNext d at found.0.entry (arc_value found.0.version).state found.1.now
    × (queues ≡ queues_after found.0.entry at.queues)
    × IsSoundVersion d (arc_value found.0.version)
    × All (BelongsTo (arc_value found.0.version).state) (answer_calls found.0.entry.what)
    × ((e : Entry) (next : State) (more : List ℕ) → IsNext d at e next more
    → (e ≡ found.0.entry) × (next ≡ (arc_value found.0.version).state) × (more ≡ found.1.now))

-- No entry was replayed yet.
pub record IsFresh (at : At) : Type 0 where
  pub last : at.last ≡ None
  pub owed : at.owed ≡ []
  pub sends : at.sends ≡ []
  pub job_sends : at.job_sends ≡ []

-- The replay has come to the end of the segment's entries. None where the report begins with no such entries, or where
-- the lines of their jobs are longer than what is left of it behind them.
abbrev pub EndsAt : SetupData → At → Option At → Type 0
EndsAt d start None =
    (entries : List Entry) (last : State) (more : List ℕ) → AreEntries d start entries last more
    → (jobs : List JobSeen) → AreJobs d start.state entries jobs → AreLonger (length more) [] jobs
EndsAt d start (Some at) =
    (entries : List Entry) × (jobs : List JobSeen) × HasReplayed d start entries jobs at
    × IsSoundVersion d (version_at at) × (at.state.place ≤ start.state.place + commands_left start.queues)
