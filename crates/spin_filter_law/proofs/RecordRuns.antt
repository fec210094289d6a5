-- A segment for each record: its raise, and the jobs that this leaves.
use Rattle.std.proofs.Common.{◌≡◌, ℕ, suc, ◌+◌, ◌<◌, List, [], ◌∷◌, ◌++◌, map, length, get_or, refl, sym, ap, subst, arith}
use Rattle.std.specs.List.{flat_map, enumerate_from, AllZip}
use Rattle.std.proofs.lemmas.List.{append-nil}
use Rattle.std.proofs.lemmas.List.Elements.{All-nil, All-cons, All-head, All-tail}
use Rattle.spin_table.specs.Setups.{SetupData}
use Rattle.spin_table.specs.States.{State}
use Rattle.spin_proto.specs.declared.deed.JobCall.{JobCall}
use Rattle.spin_proto.specs.declared.reply.Reply.{Reply}
use Rattle.spin_proto.specs.Replies.{calls_left}
use Rattle.spin_endpoint.specs.Named.{NamedEnd}
use Rattle.spin_endpoint.specs.Sends.{all_received}
use Rattle.spin_endpoint.proofs.ReceivedSends.{all_received_none}
use Rattle.spin_script.specs.declared.script.Segment.{Segment}
use Rattle.spin_script.specs.States.{ScriptData}
use Rattle.spin_report.specs.declared.entry.What.TheVariants as what
use Rattle.spin_report.specs.declared.entry.Entry.{Entry}
use Rattle.spin_report.specs.Lines.{JobSeen}
use Rattle.spin_report.specs.Histories.{SegmentSeen}
use Rattle.spin_report.specs.Jobs.{entry_job, AreJobsFrom}
use Rattle.spin_report.specs.Runs.{RunPoint, sends_of_reply, segment_sends, lost_counts, IsSegmentRun, AreRun}
use Rattle.spin_filter.specs.Histories.{PassedCapture, ArePassed, AllPassed, records_of}
use Rattle.spin_filter.specs.Passing.{Passed, raise_with, AreJobReplies, IsPassed}
use Rattle.spin_filter.specs.Rounds.{event_at}
use Rattle.spin_filter_law.specs.Laws.{record_segment, AreRecordSegments, turns_at, turns_in, used_up, answered_in, at_record}
use Rattle.spin_filter.proofs.Doings.{all_received-then}
use Rattle.spin_filter_law.proofs.SendOrder.{record_sends}

-- ---- jobs

-- jobs of an entry with these replies, from that index on
abbrev jobs_with : Entry → ℕ → List Reply → List JobSeen
jobs_with entry index [] = []
jobs_with entry index (reply ∷ replies) = entry_job entry index reply ∷ jobs_with entry (index + 1) replies

jobs_there : (d : SetupData) (s : State) (entry : Entry) (index : ℕ) (calls : List JobCall) (replies : List Reply) → AreJobReplies d s calls replies
    → AreJobsFrom d s entry index calls (jobs_with entry index replies)
jobs_there d s entry index [] replies none = ap (jobs_with entry index) none
jobs_there d s entry index (call ∷ calls) replies (reply, others, is, split, rest) = (
  reply,
  jobs_with entry (index + 1) others,
  is,
  ap (jobs_with entry index) split,
  jobs_there d s entry (index + 1) calls others rest,
)

job_replies : (entry : Entry) (index : ℕ) (replies : List Reply) → map (λ (job : JobSeen). job.reply) (jobs_with entry index replies) ≡ replies
job_replies entry index [] = refl
job_replies entry index (reply ∷ replies) = ap (λ rest. reply ∷ rest) (job_replies entry (index + 1) replies)

job_sends : (entry : Entry) (index : ℕ) (replies : List Reply) → flat_map (λ (job : JobSeen). sends_of_reply job.reply) (jobs_with entry index replies) ≡ flat_map sends_of_reply replies
job_sends entry index [] = refl
job_sends entry index (reply ∷ replies) = ap (λ rest. sends_of_reply reply ++ rest) (job_sends entry (index + 1) replies)

-- ---- segments

abbrev pub point : State → List (List ℕ) → List NamedEnd → RunPoint
point state left ends = record { state = state; left = left; ends = ends }

abbrev pub frames_in : List Passed → List (List ℕ)
frames_in passed = map (λ (p : Passed). p.taken.packet.frame) passed

module _ (long : ScriptData) (lane : ℕ) (below : lane < long.lanes) (s : State) where
  abbrev entry_of : ℕ → ℕ → Passed → Entry
  entry_of number event p = record { place = s.place; lane = lane; line = number; part = 1; what = what.Deed (raise_with event p.taken.packet.frame) p.reply }

  abbrev answers_of : ℕ → ℕ → Passed → SegmentSeen
  answers_of number event p = record { retired = []; start = s.place; entries = entry_of number event p ∷ []; jobs = jobs_with (entry_of number event p) 0 p.jobs; lost = [] }

  abbrev seen_of : ℕ → ℕ → Passed → List NamedEnd → SegmentSeen
  seen_of number event p ends = record (answers_of number event p) { lost = lost_counts long.endpoints ends (segment_sends (answers_of number event p)) }

  sends_are : (number event : ℕ) (p : Passed) → segment_sends (answers_of number event p) ≡ record_sends p
  sends_are number event p =
      let one = append-nil (sends_of_reply p.reply) in
      let rest = job_sends (entry_of number event p) 0 p.jobs in
      λ i. one i ++ rest i

  one_record : (number event : ℕ) (p : Passed) (left : List (List ℕ)) (ends : List NamedEnd) → IsPassed long.setup s event p
      → IsSegmentRun long.setup long.lanes long.endpoints (record_segment lane number event) (point s (p.taken.packet.frame ∷ left) ends) (seen_of number event p ends)
      (point s left (all_received long.endpoints (record_sends p) ends))
  one_record number event p left ends is =
      let entry = entry_of number event p in
      let own = jobs_with entry 0 p.jobs in
      record {
        retired = refl;
        start = refl;
        woven = record {
          legal = (s, ((is.reply, refl), refl), refl);
          once = λ k lt. refl;
          lanes_are = All-cons (λ (x : Entry). x.lane < long.lanes) entry [] below (All-nil (λ (x : Entry). x.lane < long.lanes));
          order = λ k e low lt. absurd (omega (arith, lt));
          jobs_are = (s, own, [], ((is.reply, refl), refl), jobs_there long.setup s entry 0 (calls_left p.reply) p.jobs is.jobs, refl, sym (append-nil own));
        };
        left = refl;
        lost = refl;
        ends = ap (λ sends. all_received long.endpoints sends ends) (sym (sends_are number event p));
      }

  one_answer : (number event : ℕ) (p : Passed) (ends : List NamedEnd) → answered_in (seen_of number event p ends) ≡ at_record p
  one_answer number event p ends =
      let jobs = job_replies (entry_of number event p) 0 p.jobs in
      λ i. record { verdicts = []; replies = p.reply ∷ []; jobs = jobs i }

  -- a run of segments for these records
  pub record HasPassed (segments : List Segment) (passed : List Passed) (ends : List NamedEnd) : Type 0 where
    pub seen : List SegmentSeen
    pub run : AreRun long segments (point s (frames_in passed) ends) seen (used_up s (all_received long.endpoints (flat_map record_sends passed) ends))
    pub answers : map answered_in seen ≡ map at_record passed

  pub all_records : (events : List ℕ) (segments : List Segment) (passed : List Passed) (ends : List NamedEnd) → AreRecordSegments lane events segments
      → AllZip (IsPassed long.setup s) events passed → HasPassed segments passed ends
  all_records [] segments [] ends are turns = record {
    seen = [];
    run = subst (λ xs. AreRun long xs (point s [] ends) [] (used_up s (all_received long.endpoints [] ends))) (sym are) (refl, ap (used_up s) (all_received_none long.endpoints ends));
    answers = refl;
  }
  all_records [] segments (p ∷ passed) ends are turns = absurd turns
  all_records (event ∷ events) segments [] ends are turns = absurd turns
  all_records (event ∷ events) segments (p ∷ passed) ends (number, others, split, rest) (is, turns) =
      let then = all_received long.endpoints (record_sends p) ends in
      let more = all_records events others passed then rest turns in
      let first = seen_of number event p ends in
      let last = used_up s (all_received long.endpoints (flat_map record_sends (p ∷ passed)) ends) in
      let behind : AreRun long others (point s (frames_in passed) then) more.seen last =
      subst (λ now. AreRun long others (point s (frames_in passed) then) more.seen (used_up s now)) (sym (all_received-then long.endpoints (record_sends p) (flat_map record_sends passed) ends)) more.run in
      let answer = one_answer number event p ends in
      record {
        seen = first ∷ more.seen;
        run = subst (λ xs. AreRun long xs (point s (frames_in (p ∷ passed)) ends) (first ∷ more.seen) last) (sym split)
            (first, more.seen, point s (frames_in passed) then, refl, one_record number event p (frames_in passed) ends is, behind);
        answers = λ i. answer i ∷ more.answers i;
      }

-- ---- turns

module _ (d : SetupData) (s : State) (round : List ℕ) where
  turns_from : (k : ℕ) (passed : List Passed) → ((n : ℕ) (p : Passed) → n < length passed → IsPassed d s (event_at round (k + n)) (get_or passed n p))
      → AllZip (IsPassed d s) (map (λ (numbered : ℕ × Passed). event_at round numbered.0) (enumerate_from k passed)) passed
  turns_from k [] are = tt
  turns_from k (p ∷ passed) are =
      let at : k + 0 ≡ k = omega arith in (
        subst (λ m. IsPassed d s (event_at round m) p) at (are 0 p (omega arith)),
        turns_from (k + 1) passed
            (λ n q lt. let next : k + suc n ≡ k + 1 + n = omega arith in subst (λ m. IsPassed d s (event_at round m) (get_or passed n q)) next (are (suc n) q (omega (arith, lt)))),
      )

  zip_append : (xs ys : List ℕ) (ps qs : List Passed) → AllZip (IsPassed d s) xs ps → AllZip (IsPassed d s) ys qs → AllZip (IsPassed d s) (xs ++ ys) (ps ++ qs)
  zip_append [] ys [] qs first second = second
  zip_append [] ys (p ∷ ps) qs first second = absurd first
  zip_append (x ∷ xs) ys [] qs first second = absurd first
  zip_append (x ∷ xs) ys (p ∷ ps) qs (is, first) second = (is, zip_append xs ys ps qs first second)

  -- each record of each capture is raised as the event whose turn it is
  pub all_turns : (captures : List PassedCapture) → AllPassed d s round captures → AllZip (IsPassed d s) (turns_in round captures) (records_of captures)
  all_turns [] all = tt
  all_turns (c ∷ captures) all =
      let here = All-head (λ (x : PassedCapture). ArePassed d s round x.head x.passed) c captures all in
      let others = All-tail (λ (x : PassedCapture). ArePassed d s round x.head x.passed) c captures all in
      zip_append (turns_at round c.passed) (turns_in round captures) c.passed (records_of captures)
      (turns_from 0 c.passed (λ n p lt. let at : n ≡ 0 + n = omega arith in subst (λ m. IsPassed d s (event_at round m) (get_or c.passed n p)) at (here.turns n p lt)))
      (all_turns captures others)
