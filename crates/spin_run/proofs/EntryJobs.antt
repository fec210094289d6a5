-- The jobs that entries leave.
use Rattle.std.proofs.Common.{◌≡◌, ℕ, ◌+◌, ◌≤◌, List, [], ◌∷◌, ◌++◌, All, map, length, take, get_or, flat_map, refl, sym, ap, ◌∙◌, subst, arith, append_assoc}
use Rattle.std.specs.Arc.{arc_value}
use Rattle.std.proofs.lemmas.Grind.{flat_map-append}
use Rattle.std.proofs.lemmas.List.{append-nil, map-append, take-append-le}
use Rattle.std.proofs.lemmas.List.Elements.{All-nil, All-cons, All-head, All-tail, All-push, All-append, All-weaker}
use Rattle.spin_word.specs.declared.row.Row.{Row}
use Rattle.spin_log.specs.Rows.{IsPrefix}
use Rattle.spin_log.specs.Pens.{PenValue}
use Rattle.spin_table.specs.Setups.{SetupData}
use Rattle.spin_table.specs.States.{State, VersionValue}
use Rattle.spin_table.specs.Soundness.{IsSoundVersion}
use Rattle.spin_proto.specs.declared.deed.JobCall.{JobCall}
use Rattle.spin_proto.specs.declared.deed.Job.{Job}
use Rattle.spin_proto.specs.Replies.{BelongsTo}
use Rattle.spin_seat.specs.Replay.{IsReplayFrom}
use Rattle.spin_seat.specs.Places.{place_past, rows_past}
use Rattle.spin_seat.specs.Answers.{Answer}
use Rattle.spin_seat.specs.Runs.{RanFrom}
use Rattle.spin_seat.proofs.PastPlaces.{place_past_is, rows_past_is}
use Rattle.spin_seat.proofs.SeatInvariants.{all_unmap}
use Rattle.spin_report.specs.declared.entry.Entry.{Entry}
use Rattle.spin_report.specs.Jobs.{answer_calls}
use Rattle.spin_run.specs.Lanes.{seat_answer, JobAsked, job_asked, jobs_from, jobs_of, AreJobsOf}
use Rattle.spin_run.specs.Inner.Answering.{IsLeftBy, AddsJobs}

-- ---- the jobs of one entry

abbrev asked_job : Entry → ℕ → JobCall → JobAsked
asked_job entry index call = record { place = entry.place; lane = entry.lane; line = entry.line; part = entry.part; index = index; call = call }

jobs_from-push : (entry : Entry) (index : ℕ) (calls : List JobCall) (call : JobCall)
    → jobs_from entry index (calls ++ call ∷ []) ≡ jobs_from entry index calls ++ asked_job entry (index + length calls) call ∷ []
jobs_from-push entry index [] call = ap (λ n. asked_job entry n call ∷ []) (omega arith)
jobs_from-push entry index (first ∷ calls) call =
    ap (λ l. asked_job entry index first ∷ l) (jobs_from-push entry (index + 1) calls call ∙ ap (λ n. jobs_from entry (index + 1) calls ++ asked_job entry n call ∷ []) (omega arith))

pub adds_nothing : (entry : Entry) (version : VersionValue) (jobs : List Job) → AddsJobs entry version [] jobs jobs
adds_nothing entry version jobs = record {
  added = [];
  jobs_are = sym (append-nil jobs);
  asked = refl;
  each = All-nil (IsLeftBy entry version);
}

-- one more job
pub adds_one : (entry : Entry) (version : VersionValue) (calls : List JobCall) (old middle new : List Job) (job : Job) → AddsJobs entry version calls old middle → new ≡ middle ++ job ∷ []
    → job.place ≡ entry.place → job.lane ≡ entry.lane → job.line ≡ entry.line → job.part ≡ entry.part → job.index ≡ length calls → arc_value job.version ≡ version → BelongsTo version.state job.call
    → AddsJobs entry version (calls ++ job.call ∷ []) old new
adds_one entry version calls old middle new job a is place lane line part index version_is belongs =
    let one : job_asked job ≡ asked_job entry (length calls) job.call = λ i. record { place = place i; lane = lane i; line = line i; part = part i; index = index i; call = job.call } in
    let from : 0 + length calls ≡ length calls = omega arith in
    record {
      added = a.added ++ job ∷ [];
      jobs_are = is ∙ ap (λ l. l ++ job ∷ []) a.jobs_are ∙ append_assoc old a.added (job ∷ []);
      asked = map-append job_asked a.added (job ∷ []) ∙ (λ i. a.asked i ++ one i ∷ [])
          ∙ sym (jobs_from-push entry 0 calls job.call ∙ ap (λ n. jobs_from entry 0 calls ++ asked_job entry n job.call ∷ []) from);
      each = All-push (IsLeftBy entry version) a.added job a.each (record { place = place; version_is = version_is; call = belongs });
    }

-- ---- the jobs of all entries

all_from : (n : ℕ) (entry : Entry) (index : ℕ) (calls : List JobCall) → entry.place ≤ n → All (λ (a : JobAsked). a.place ≤ n) (jobs_from entry index calls)
all_from n entry index [] le = All-nil (λ (a : JobAsked). a.place ≤ n)
all_from n entry index (call ∷ calls) le = All-cons (λ (a : JobAsked). a.place ≤ n) (asked_job entry index call) (jobs_from entry (index + 1) calls) le (all_from n entry (index + 1) calls le)

all_jobs : (n : ℕ) (entries : List Entry) → All (λ (e : Entry). e.place ≤ n) entries → All (λ (a : JobAsked). a.place ≤ n) (flat_map jobs_of entries)
all_jobs n [] le = All-nil (λ (a : JobAsked). a.place ≤ n)
all_jobs n (entry ∷ entries) le =
    All-append (λ (a : JobAsked). a.place ≤ n) (jobs_of entry) (flat_map jobs_of entries) (all_from n entry 0 (answer_calls entry.what) (All-head (λ (e : Entry). e.place ≤ n) entry entries le))
    (all_jobs n entries (All-tail (λ (e : Entry). e.place ≤ n) entry entries le))

-- the places of entries lie in the front, and so do those of their jobs
pub places_reached : (d : SetupData) (first : State) (before after : PenValue) (entries : List Entry) → RanFrom d first before (map seat_answer entries) after
    → All (λ (e : Entry). e.place ≤ place_past first.place (length after.front)) entries
places_reached d first before after entries r =
    all_unmap (λ (a : Answer). a.place ≤ place_past first.place (length after.front)) seat_answer entries (λ k a lt. (r.steps k a lt).reached)

pub jobs_reached : (d : SetupData) (first : State) (before after : PenValue) (entries : List Entry) (jobs : List Job) → RanFrom d first before (map seat_answer entries) after
    → map job_asked jobs ≡ flat_map jobs_of entries → All (λ (j : Job). j.place ≤ place_past first.place (length after.front)) jobs
jobs_reached d first before after entries jobs r asked =
    let last = place_past first.place (length after.front) in
    all_unmap (λ (a : JobAsked). a.place ≤ last) job_asked jobs
    (subst (All (λ (a : JobAsked). a.place ≤ last)) (sym asked) (all_jobs last entries (places_reached d first before after entries r)))

-- so many rows lie before such a place, which are those of each log that the front begins
pub rows_stand : (first place : ℕ) (front more : List Row) → place ≤ place_past first (length front)
    → take (rows_past first place) (front ++ more) ≡ take (rows_past first place) front
rows_stand first place front more le =
    take-append-le (rows_past first place) front more (omega (arith, le, place_past_is first (length front), rows_past_is first place))

-- the version of a job is that of its place in each log that the front begins
pub version_stands : (d : SetupData) (first : State) (pen after : PenValue) (jobs : List Job) → IsPrefix pen.front after.front
    → All (λ (j : Job). j.place ≤ place_past first.place (length pen.front)) jobs
    → All (λ (j : Job). IsReplayFrom d first (take (rows_past first.place j.place) pen.front) (arc_value j.version).state) jobs
    → All (λ (j : Job). IsReplayFrom d first (take (rows_past first.place j.place) after.front) (arc_value j.version).state) jobs
version_stands d first pen after jobs p reached versions k j lt =
    let place = (get_or jobs k j).place in
    let rows = rows_past first.place place in
    let same : take rows pen.front ≡ take rows after.front = sym (ap (take rows) p.1 ∙ rows_stand first.place place pen.front p.0 (reached k j lt)) in
    subst (λ rows. IsReplayFrom d first rows (arc_value (get_or jobs k j).version).state) same (versions k j lt)

-- the jobs where the front grows
pub jobs_stay : (d : SetupData) (first : State) (before pen after : PenValue) (entries : List Entry) (jobs : List Job) → RanFrom d first before (map seat_answer entries) pen
    → IsPrefix pen.front after.front → AreJobsOf d first entries pen.front jobs → AreJobsOf d first entries after.front jobs
jobs_stay d first before pen after entries jobs r p j = record {
  asked = j.asked;
  versions = version_stands d first pen after jobs p (jobs_reached d first before pen entries jobs r j.asked) j.versions;
  sound = j.sound;
  calls = j.calls;
}

-- one more entry, with its jobs
pub jobs_more : (d : SetupData) (first : State) (pen : PenValue) (entries : List Entry) (entry : Entry) (version : VersionValue) (old new : List Job)
    → AreJobsOf d first entries pen.front old → AddsJobs entry version (answer_calls entry.what) old new
    → IsReplayFrom d first (take (rows_past first.place entry.place) pen.front) version.state → IsSoundVersion d version → AreJobsOf d first (entries ++ entry ∷ []) pen.front new
jobs_more d first pen entries entry version old new j a replay sound = record {
  asked =
      ap (map job_asked) a.jobs_are ∙ map-append job_asked old a.added ∙ (λ i. j.asked i ++ a.asked i)
      ∙ sym (flat_map-append jobs_of entries (entry ∷ []) ∙ ap (λ l. flat_map jobs_of entries ++ l) (append-nil (jobs_of entry)));
  versions = both (λ (x : Job). IsReplayFrom d first (take (rows_past first.place x.place) pen.front) (arc_value x.version).state) j.versions
      (λ x l. subst (λ (p : ℕ × VersionValue). IsReplayFrom d first (take (rows_past first.place p.0) pen.front) p.1.state) (λ i. (sym l.place i, sym l.version_is i)) replay);
  sound = both (λ (x : Job). IsSoundVersion d (arc_value x.version)) j.sound (λ x l. subst (IsSoundVersion d) (sym l.version_is) sound);
  calls = both (λ (x : Job). BelongsTo (arc_value x.version).state x.call) j.calls (λ x l. subst (λ (v : VersionValue). BelongsTo v.state x.call) (sym l.version_is) l.call);
}
  where
    both : (P : Job → Type 0) → All P old → ((x : Job) → IsLeftBy entry version x → P x) → All P new
    both P first second = subst (All P) (sym a.jobs_are) (All-append P old a.added first (All-weaker (IsLeftBy entry version) P second a.added a.each))
