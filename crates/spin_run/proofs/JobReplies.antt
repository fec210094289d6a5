-- The jobs of woven entries, with their replies.
use Rattle.std.proofs.Common.{◌≡◌, ℕ, ◌+◌, ◌≤◌, List, [], ◌∷◌, ◌++◌, map, length, take, refl, ap, subst, arith}
use Rattle.std.specs.Prelude.{All}
use Rattle.std.specs.List.{flat_map, AllZip}
use Rattle.std.specs.Arc.{arc_value}
use Rattle.std.proofs.lemmas.List.Elements.{All-head, All-tail}
use Rattle.spin_word.specs.declared.row.Row.{Row}
use Rattle.spin_table.specs.Setups.{SetupData}
use Rattle.spin_table.specs.States.{State}
use Rattle.spin_proto.specs.declared.deed.JobCall.{JobCall}
use Rattle.spin_proto.specs.declared.deed.Job.{Job}
use Rattle.spin_proto.specs.declared.reply.Reply.{Reply}
use Rattle.spin_proto.specs.Replies.{IsJobReply}
use Rattle.spin_seat.specs.Replay.{IsReplayFrom, IsCleanFrom}
use Rattle.spin_seat.specs.Places.{place_past, rows_past}
use Rattle.spin_seat.specs.Answers as seat
use Rattle.spin_seat.proofs.RowReplays.{IsReplayFrom-one}
use Rattle.spin_seat.proofs.SeatAnswers.{before_place}
use Rattle.spin_report.specs.declared.entry.Entry.{Entry}
use Rattle.spin_report.specs.Lines.{JobSeen, job_seen}
use Rattle.spin_report.specs.Jobs.{answer_calls, entry_job, AreJobsFrom, AreJobs}
use Rattle.spin_report.specs.Legal.{IsLegal}
use Rattle.spin_run.specs.Lanes.{seat_answer, JobAsked, job_asked, jobs_from, jobs_of}
use Rattle.spin_run.specs.Segments.{jobs_seen}
use Rattle.spin_run.proofs.WovenEntries.{next_replays}

-- the reply is one of the job's call on its version
abbrev pub IsRepliedBy : SetupData → Job → Reply → Type 0
IsRepliedBy d job reply = IsJobReply d (arc_value job.version).state job.call reply

module _ (d : SetupData) (first : State) (log : List Row) where
  -- the job's version is that of its place in the log
  abbrev pub IsOfLog : Job → Type 0
  IsOfLog job = IsReplayFrom d first (take (rows_past first.place job.place) log) (arc_value job.version).state

  -- the jobs of one entry with their replies, and the jobs that are left
  record Split (state : State) (entry : Entry) (index : ℕ) (calls : List JobCall) (rest : List JobAsked) (jobs : List Job) (replies : List Reply) : Type 0 where
    own : List JobSeen
    left : List Job
    left_replies : List Reply
    own_are : AreJobsFrom d state entry index calls own
    left_are : map job_asked left ≡ rest
    replied : AllZip (IsRepliedBy d) left left_replies
    of_log : All IsOfLog left
    parts : jobs_seen jobs replies ≡ own ++ jobs_seen left left_replies

  split : (state : State) (entry : Entry) (index : ℕ) (calls : List JobCall) (rest : List JobAsked) (jobs : List Job) (replies : List Reply)
      → IsReplayFrom d first (take (rows_past first.place entry.place) log) state → map job_asked jobs ≡ jobs_from entry index calls ++ rest
      → AllZip (IsRepliedBy d) jobs replies → All IsOfLog jobs → Split state entry index calls rest jobs replies
  split state entry index [] rest jobs replies replay is replied of_log = record {
    own = [];
    left = jobs;
    left_replies = replies;
    own_are = refl;
    left_are = is;
    replied = replied;
    of_log = of_log;
    parts = refl;
  }
  split state entry index (call ∷ calls) rest [] replies replay is replied of_log = absurd (cc (is))
  split state entry index (call ∷ calls) rest (job ∷ jobs) [] replay is replied of_log = absurd replied
  split state entry index (call ∷ calls) rest (job ∷ jobs) (reply ∷ replies) replay is replied of_log =
      let one : JobAsked = record { place = entry.place; lane = entry.lane; line = entry.line; part = entry.part; index = index; call = call } in
      let head : job_asked job ≡ one = cc (is) in
      let tail : map job_asked jobs ≡ jobs_from entry (index + 1) calls ++ rest = cc (is) in
      let more = split state entry (index + 1) calls rest jobs replies replay tail replied.1 (All-tail IsOfLog job jobs of_log) in
      let here = subst (λ (n : ℕ). IsReplayFrom d first (take (rows_past first.place n) log) (arc_value job.version).state) (ap (λ (a : JobAsked). a.place) head) (All-head IsOfLog job jobs of_log) in
      let version : (arc_value job.version).state ≡ state = IsReplayFrom-one d first (take (rows_past first.place entry.place) log) (arc_value job.version).state state here replay in
      let asked : job.call ≡ call = ap (λ (a : JobAsked). a.call) head in
      let answer : IsJobReply d state call reply = subst (λ (x : State × JobCall). IsJobReply d x.0 x.1 reply) (λ i. (version i, asked i)) replied.0 in
      let seen : job_seen job reply ≡ entry_job entry index reply =
      ap (λ (a : JobAsked). record { place = a.place; lane = a.lane; line = a.line; part = a.part; index = a.index; reply = reply }) head in
      record {
        own = entry_job entry index reply ∷ more.own;
        left = more.left;
        left_replies = more.left_replies;
        own_are = (reply, more.own, answer, refl, more.own_are);
        left_are = more.left_are;
        replied = more.replied;
        of_log = more.of_log;
        parts = λ i. seen i ∷ more.parts i;
      }

  module _ (clean : IsCleanFrom d first log) where
    -- jobs of legal entries, each with the version of its place and with its reply
    pub are_jobs : (entries : List Entry) (jobs : List Job) (replies : List Reply) (p : ℕ) (s last : State)
        → first.place ≤ p → p ≤ place_past first.place (length log) → IsReplayFrom d first (take (rows_past first.place p) log) s
        → IsLegal d s entries last → All (λ e. seat.IsAnswerFrom d first log (seat_answer e)) entries
        → map job_asked jobs ≡ flat_map jobs_of entries → AllZip (IsRepliedBy d) jobs replies → All IsOfLog jobs → AreJobs d s entries (jobs_seen jobs replies)
    are_jobs [] [] replies p s last since le replay legal right is replied of_log = refl
    are_jobs [] (job ∷ jobs) replies p s last since le replay legal right is replied of_log = absurd (cc (is))
    are_jobs (e ∷ es) jobs replies p s last since le replay legal right is replied of_log =
        let a = All-head (λ e. seat.IsAnswerFrom d first log (seat_answer e)) e es right in
        let next : State = legal.0 in
        let there = next_replays d first log clean p s next e since le replay a legal.1 in
        let later : first.place ≤ e.place = omega (arith, a.since, before_place (seat_answer e)) in
        let parts = split next e 0 (answer_calls e.what) (flat_map jobs_of es) jobs replies there is replied of_log in (
          next,
          parts.own,
          jobs_seen parts.left parts.left_replies,
          legal.1,
          parts.own_are,
          are_jobs es parts.left parts.left_replies e.place next last later a.reached there legal.2
              (All-tail (λ e. seat.IsAnswerFrom d first log (seat_answer e)) e es right) parts.left_are parts.replied parts.of_log,
          parts.parts,
        )
