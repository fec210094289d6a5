-- How many jobs a segment leaves at most.
use Rattle.std.proofs.Common.{◌≡◌, ℕ, ◌+◌, ◌*◌, ◌^◌, ◌<◌, ◌≤◌, List, [], ◌∷◌, map, length, refl, sym, ap, ◌∙◌, arith, length-append}
use Rattle.std.specs.Prelude.{All, sum_by}
use Rattle.std.specs.List.{flat_map}
use Rattle.std.proofs.lemmas.List.{length-map}
use Rattle.spin_table.specs.Setups.{SetupData}
use Rattle.spin_table.specs.States.{State}
use Rattle.spin_proto.specs.declared.deed.JobCall.{JobCall}
use Rattle.spin_proto.specs.declared.deed.Job.{Job}
use Rattle.spin_seat.proofs.LaneCounts.{sum_below-same}
use Rattle.spin_script.specs.declared.script.Line.{Line}
use Rattle.spin_script.specs.States.{deed_count}
use Rattle.spin_script.specs.Checks.{most_deeds}
use Rattle.spin_report.specs.declared.entry.What.{What}
use Rattle.spin_report.specs.declared.entry.What.TheVariants as what
use Rattle.spin_report.specs.declared.entry.Entry.{Entry}
use Rattle.spin_report.specs.Asked.{Numbered, asked_of}
use Rattle.spin_report.specs.Jobs.{answer_calls}
use Rattle.spin_report.specs.Legal.{Answers, IsLegal}
use Rattle.spin_report.specs.Segments.{asked_in, asked_of_lane, of_lane}
use Rattle.spin_report.proofs.Asking.{asked_few}
use Rattle.spin_run.specs.Lanes.{job_asked, jobs_from, jobs_of}
use Rattle.spin_run.proofs.LogCounts.{partition_length}
use Rattle.spin_proto.proofs.JobCounts.{calls_few}

length-jobs_from : (e : Entry) (index : ℕ) (calls : List JobCall) → length (jobs_from e index calls) ≡ length calls
length-jobs_from e index [] = refl
length-jobs_from e index (call ∷ calls) = let r = length-jobs_from e (index + 1) calls in omega (arith, r)

answer_few : (d : SetupData) (s : State) (w : What) (next : State) → Answers d s w next → length (answer_calls w) ≤ 4096
answer_few d s (what.Command c v) next h = omega arith
answer_few d s (what.Deed asked reply) next h = calls_few d s asked reply h.0

-- entries that are legal leave few jobs each
entries_leave : (d : SetupData) (s last : State) (entries : List Entry) → IsLegal d s entries last → length (flat_map jobs_of entries) ≤ 4096 * length entries
entries_leave d s last [] legal = omega arith
entries_leave d s last (e ∷ es) legal =
    let here = answer_few d s e.what legal.0 legal.1.0 in
    let size = length-jobs_from e 0 (answer_calls e.what) in
    let more = entries_leave d legal.0 last es legal.2 in
    let all = length-append (jobs_of e) (flat_map jobs_of es) in
    omega (arith, here, size, more, all)

-- as many entries as are asked
entries_count : (lanes : ℕ) (asked : List Numbered) (entries : List Entry) → All (λ n. n.lane < lanes) asked → All (λ (e : Entry). e.lane < lanes) entries
    → ((k : ℕ) → k < lanes → map asked_of (of_lane k entries) ≡ asked_of_lane k asked) → length entries ≡ length asked
entries_count lanes asked entries under entries_under once =
    sym (partition_length (λ (e : Entry). e.lane) lanes entries entries_under)
    ∙ sum_below-same lanes (λ k. length (of_lane k entries)) (λ k. length (asked_of_lane k asked)) (λ k lt. sym (length-map (of_lane k entries) asked_of) ∙ ap length (once k lt))
    ∙ partition_length (λ (n : Numbered). n.lane) lanes asked under

pub jobs_few : (d : SetupData) (s last : State) (lanes : ℕ) (lines : List Line) (records : List (List ℕ)) (entries : List Entry) (jobs : List Job)
    → sum_by (λ line. deed_count line.work) lines ≤ most_deeds → IsLegal d s entries last
    → All (λ n. n.lane < lanes) (asked_in lines records) → All (λ (e : Entry). e.lane < lanes) entries
    → ((k : ℕ) → k < lanes → map asked_of (of_lane k entries) ≡ asked_of_lane k (asked_in lines records))
    → map job_asked jobs ≡ flat_map jobs_of entries → length jobs < 2 ^ 32
jobs_few d s last lanes lines records entries jobs few legal under entries_under once is =
    let count = entries_count lanes (asked_in lines records) entries under entries_under once in
    let asked = asked_few lines records in
    let left = entries_leave d s last entries legal in
    let same = sym (length-map jobs job_asked) ∙ ap length is in
    omega (arith, few, count, asked, left, same)
