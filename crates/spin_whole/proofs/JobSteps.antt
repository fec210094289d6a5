-- Sends and jobs, one after another.
use Rattle.std.proofs.Common.{◌≡◌, ◌<◌, ◌≤◌, ◌+◌, ℕ, List, [], ◌∷◌, ◌++◌, map, length, take, get_or, refl, sym, ap, subst, ◌∙◌, append_assoc, arith}
use Rattle.std.specs.List.{filter_map}
use Rattle.std.proofs.lemmas.Grind.{flat_map-append}
use Rattle.std.proofs.lemmas.List.{append-nil, map-append, take_more, take_all, length-take}
use Rattle.std.proofs.lemmas.List.Elements.{filter_map-append}
use Rattle.spin_table.specs.Setups.{SetupData}
use Rattle.spin_table.specs.States.{State}
use Rattle.spin_proto.specs.declared.deed.JobCall.{JobCall}
use Rattle.spin_proto.specs.declared.reply.Reply.{Reply}
use Rattle.spin_proto.specs.declared.reply.Reply.TheVariants as said
use Rattle.spin_proto.specs.declared.reply.Step.{Step}
use Rattle.spin_proto.specs.Parts.{trace_in}
use Rattle.spin_proto.specs.Replies.{IsJobReply}
use Rattle.spin_endpoint.specs.Sends.{SentSeen}
use Rattle.spin_text.specs.Words.{ended, text_of}
use Rattle.spin_report.specs.declared.entry.What.{What}
use Rattle.spin_report.specs.declared.entry.What.TheVariants as what
use Rattle.spin_report.specs.declared.entry.Entry.{Entry}
use Rattle.spin_report.specs.Lines.{JobSeen, job_line}
use Rattle.spin_report.specs.Jobs.{entry_job, AreJobsFrom}
use Rattle.spin_report.specs.Views.{answer_steps}
use Rattle.spin_report.specs.Runs.{sent_by, sends_of, sends_of_reply}
use Rattle.spin_check.proofs.ReplayLemmas.{text_of-append}
use Rattle.spin_whole.specs.Inner.Parts.{sent_by_jobs}

-- ---- lists that are added to

-- what is added twice
pub added_twice : {X : Type 0} (x y z p q r : List X) → y ≡ x ++ p → z ≡ y ++ q → r ≡ p ++ q → z ≡ x ++ r
added_twice x y z p q r one two both = two ∙ ap (λ l. l ++ q) one ∙ append_assoc x p q ∙ ap (λ l. x ++ l) (sym both)

-- ---- sends

pub sends_more : (old now now' : List SentSeen) (steps : List Step) (k : ℕ) (step : Step) → k < length steps → get_or steps k step ≡ step
    → now ≡ old ++ filter_map sent_by (take k steps) → now' ≡ now ++ filter_map sent_by (step ∷ []) → now' ≡ old ++ filter_map sent_by (take (k + 1) steps)
sends_more old now now' steps k step lt is before one =
    added_twice old now now' (filter_map sent_by (take k steps)) (filter_map sent_by (step ∷ [])) (filter_map sent_by (take (k + 1) steps)) before one
    (ap (filter_map sent_by) (take_more steps k step lt ∙ ap (λ y. take k steps ++ y ∷ []) is) ∙ filter_map-append sent_by (take k steps) (step ∷ []))

-- what a reply sends is what its steps send
pub reply_sends : (r : Reply) → filter_map sent_by (trace_in r) ≡ sends_of_reply r
reply_sends (said.Ran answer trace jobs) = refl
reply_sends (said.Queued call) = refl
reply_sends said.UnknownEvent = refl
reply_sends said.WrongArgs = refl
reply_sends said.Spent = refl

pub answer_sends : (w : What) → filter_map sent_by (answer_steps w) ≡ sends_of w
answer_sends (what.Command c v) = refl
answer_sends (what.Deed d r) = reply_sends r

-- ---- jobs

from_push : (d : SetupData) (s : State) (e : Entry) (n : ℕ) (calls : List JobCall) (jobs : List JobSeen) (call : JobCall) (reply : Reply)
    → AreJobsFrom d s e n calls jobs → IsJobReply d s call reply → AreJobsFrom d s e n (calls ++ call ∷ []) (jobs ++ entry_job e (n + length calls) reply ∷ [])
from_push d s e n [] jobs call reply are is =
    let at : n + 0 ≡ n = omega arith in
    (reply, [], is, ap (λ l. l ++ entry_job e (n + 0) reply ∷ []) are ∙ ap (λ k. entry_job e k reply ∷ []) at, refl)
from_push d s e n (c ∷ calls) jobs call reply are is =
    let at : n + 1 + length calls ≡ n + length (c ∷ calls) = omega arith in (
      are.0,
      are.1 ++ entry_job e (n + length (c ∷ calls)) reply ∷ [],
      are.2,
      ap (λ l. l ++ entry_job e (n + length (c ∷ calls)) reply ∷ []) are.3,
      subst (λ k. AreJobsFrom d s e (n + 1) (calls ++ call ∷ []) (are.1 ++ entry_job e k reply ∷ [])) at (from_push d s e (n + 1) calls are.1 call reply are.4 is),
    )

-- the jobs of the first calls, so many of them, are done
pub record AreFirst (d : SetupData) (s : State) (e : Entry) (calls : List JobCall) (k : ℕ) (out_before : List ℕ) (sends_before : List SentSeen)
    (index : ℕ) (out : List ℕ) (sends : List SentSeen) : Type 0 where
  pub jobs : List JobSeen
  pub are : AreJobsFrom d s e 0 (take k calls) jobs
  pub at : index ≡ k
  pub text : out ≡ out_before ++ text_of (map job_line jobs)
  pub sent : sends ≡ sends_before ++ sent_by_jobs jobs

pub first_none : (d : SetupData) (s : State) (e : Entry) (calls : List JobCall) (out : List ℕ) (sends : List SentSeen) → AreFirst d s e calls 0 out sends 0 out sends
first_none d s e calls out sends = record { jobs = []; are = refl; at = refl; text = sym (append-nil out); sent = sym (append-nil sends) }

pub first_more : (d : SetupData) (s : State) (e : Entry) (calls : List JobCall) (k : ℕ) (out_before : List ℕ) (sends_before : List SentSeen) (call : JobCall)
    (index : ℕ) (out next_out : List ℕ) (sends next_sends : List SentSeen) (reply : Reply) (job : JobSeen)
    → k < length calls → get_or calls k call ≡ call → AreFirst d s e calls k out_before sends_before index out sends → IsJobReply d s call reply → job ≡ entry_job e index reply
    → next_out ≡ out ++ ended (job_line job) → next_sends ≡ sends ++ sends_of_reply reply
    → AreFirst d s e calls (k + 1) out_before sends_before (index + 1) next_out next_sends
first_more d s e calls k out_before sends_before call index out next_out sends next_sends reply job lt is first replies seen text sent =
    let at : 0 + length (take k calls) ≡ index = omega (arith, length-take k calls, first.at, lt) in
    let job_is : entry_job e (0 + length (take k calls)) reply ≡ job = ap (λ i. entry_job e i reply) at ∙ sym seen in
    let more : take (k + 1) calls ≡ take k calls ++ call ∷ [] = take_more calls k call lt ∙ ap (λ c. take k calls ++ c ∷ []) is in
    let jobs = first.jobs ++ job ∷ [] in
    let own : sends_of_reply reply ≡ sent_by_jobs (job ∷ []) = ap (λ (j : JobSeen). sends_of_reply j.reply) (sym seen) ∙ sym (append-nil (sends_of_reply job.reply)) in
    record {
      jobs = jobs;
      are =
          subst (λ l. AreJobsFrom d s e 0 l jobs) (sym more)
          (subst (λ j. AreJobsFrom d s e 0 (take k calls ++ call ∷ []) (first.jobs ++ j ∷ [])) job_is (from_push d s e 0 (take k calls) first.jobs call reply first.are replies));
      at = omega (arith, first.at);
      text =
          added_twice out_before out next_out (text_of (map job_line first.jobs)) (ended (job_line job)) (text_of (map job_line jobs)) first.text text
          (ap text_of (map-append job_line first.jobs (job ∷ [])) ∙ text_of-append (map job_line first.jobs) (job_line job ∷ [])
          ∙ ap (λ t. text_of (map job_line first.jobs) ++ t) (append-nil (ended (job_line job))));
      sent =
          added_twice sends_before sends next_sends (sent_by_jobs first.jobs) (sends_of_reply reply) (sent_by_jobs jobs) first.sent sent
          (flat_map-append (λ (j : JobSeen). sends_of_reply j.reply) first.jobs (job ∷ []) ∙ ap (λ l. sent_by_jobs first.jobs ++ l) (sym own));
    }

pub first_all : (d : SetupData) (s : State) (e : Entry) (calls : List JobCall) (k : ℕ) (out_before : List ℕ) (sends_before : List SentSeen)
    (index : ℕ) (out : List ℕ) (sends : List SentSeen) → length calls ≤ k → AreFirst d s e calls k out_before sends_before index out sends
    → (own : List JobSeen) × AreJobsFrom d s e 0 calls own × (out ≡ out_before ++ text_of (map job_line own)) × (sends ≡ sends_before ++ sent_by_jobs own)
first_all d s e calls k out_before sends_before index out sends past first =
    (first.jobs, subst (λ l. AreJobsFrom d s e 0 l first.jobs) (take_all k calls past) first.are, first.text, first.sent)
