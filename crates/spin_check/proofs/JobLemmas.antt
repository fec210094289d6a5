-- The jobs of an entry, done one after another, and what is sent.
use Rattle.std.proofs.Common.{◌≡◌, ◌<◌, ◌^◌, ◌+◌, ℕ, List, [], ◌∷◌, ◌++◌, map, length, take, get_or, refl, sym, ap, subst, ◌∙◌, append_assoc, arith}
use Rattle.std.specs.Prelude.{All}
use Rattle.std.specs.List.{flat_map, filter_map}
use Rattle.std.proofs.lemmas.List.{append-nil, map-append, take_more, length-append}
use Rattle.std.proofs.lemmas.List.Elements.{filter_map-append}
use Rattle.spin_table.specs.Setups.{SetupData}
use Rattle.spin_table.specs.States.{State}
use Rattle.spin_proto.specs.declared.deed.JobCall.{JobCall}
use Rattle.spin_proto.specs.declared.reply.Reply.{Reply}
use Rattle.spin_proto.specs.declared.reply.Step.{Step}
use Rattle.spin_proto.specs.Replies.{IsJobReply, BelongsTo}
use Rattle.spin_endpoint.specs.Sends.{SentSeen}
use Rattle.spin_text.specs.Words.{ended, text_of}
use Rattle.spin_report.specs.declared.entry.Entry.{Entry}
use Rattle.spin_report.specs.Lines.{JobSeen, job_line}
use Rattle.spin_report.specs.Jobs.{answer_calls, entry_job, AreJobsFrom}
use Rattle.spin_report.specs.Runs.{sent_by, sends_of_reply}
use Rattle.spin_report.proofs.AnswerUniqueness.{one_job_reply}
use Rattle.spin_check.specs.Inner.Standings.{numbers_of}
use Rattle.spin_check.specs.Inner.Replays.{sent_by_jobs, AreLonger}
use Rattle.spin_check.proofs.ReplayLemmas.{text_of-append}

-- ---- sends

pub numbers-append : (xs ys : List SentSeen) → numbers_of (xs ++ ys) ≡ numbers_of xs ++ numbers_of ys
numbers-append xs ys = map-append (λ s. s.endpoint) xs ys

pub sends_more : (old now now' : List ℕ) (steps : List Step) (k : ℕ) (step : Step) → k < length steps → get_or steps k step ≡ step → now ≡ old ++ numbers_of (filter_map sent_by (take k steps))
    → now' ≡ now ++ numbers_of (filter_map sent_by (step ∷ [])) → now' ≡ old ++ numbers_of (filter_map sent_by (take (k + 1) steps))
sends_more old now now' steps k step lt is before one =
    one ∙ ap (λ x. x ++ numbers_of (filter_map sent_by (step ∷ []))) before
    ∙ append_assoc old (numbers_of (filter_map sent_by (take k steps))) (numbers_of (filter_map sent_by (step ∷ [])))
    ∙ ap (λ y. old ++ y)
    (sym (ap (λ l. numbers_of (filter_map sent_by l)) (take_more steps k step lt ∙ ap (λ y. take k steps ++ y ∷ []) is) ∙ ap numbers_of (filter_map-append sent_by (take k steps) (step ∷ []))
    ∙ numbers-append (filter_map sent_by (take k steps)) (filter_map sent_by (step ∷ []))))

-- ---- jobs

from_push : (d : SetupData) (s : State) (e : Entry) (n : ℕ) (calls : List JobCall) (jobs : List JobSeen) (call : JobCall) (reply : Reply)
    → AreJobsFrom d s e n calls jobs → IsJobReply d s call reply → AreJobsFrom d s e n (calls ++ call ∷ []) (jobs ++ entry_job e (n + length calls) reply ∷ [])
from_push d s e n [] jobs call reply are is =
    let at : n + 0 ≡ n = omega arith in
    (reply, [], is, ap (λ l. l ++ entry_job e (n + 0) reply ∷ []) are ∙ ap (λ k. entry_job e k reply ∷ []) at, refl)
from_push d s e n (c ∷ calls) jobs call reply are is =
    let at : n + 1 + length calls ≡ n + length (c ∷ calls) = omega arith in (
      are.0,
      are.1 ++ entry_job e (n + length (c ∷ calls)) reply ∷ [],
      are.2,
      ap (λ l. l ++ entry_job e (n + length (c ∷ calls)) reply ∷ []) are.3,
      subst (λ k. AreJobsFrom d s e (n + 1) (calls ++ call ∷ []) (are.1 ++ entry_job e k reply ∷ [])) at (from_push d s e (n + 1) calls are.1 call reply are.4 is),
    )

-- the jobs of more calls begin with those of the first ones
from_front : (d : SetupData) (s : State) (e : Entry) (n : ℕ) (calls left : List JobCall) (jobs own : List JobSeen) → AreJobsFrom d s e n calls jobs → AreJobsFrom d s e n (calls ++ left) own
    → (others : List JobSeen) × (own ≡ jobs ++ others)
from_front d s e n [] left jobs own are all = (own, ap (λ j. j ++ own) (sym are))
from_front d s e n (c ∷ calls) left jobs own are all =
    let reply : all.0 ≡ are.0 = one_job_reply d s c all.0 are.0 all.2 are.2 in
    let rest = from_front d s e (n + 1) calls left are.1 all.1 are.4 all.4 in
    (rest.0, all.3 ∙ (λ i. entry_job e n (reply i) ∷ rest.1 i) ∙ ap (λ j. j ++ rest.0) (sym are.3))

-- the first calls of an entry are done
pub record AreDone (d : SetupData) (s : State) (e : Entry) (out_before sends_before : List ℕ) (left : List JobCall) (index : ℕ) (out sends : List ℕ) : Type 0 where
  pub calls : List JobCall
  pub jobs : List JobSeen
  pub all : answer_calls e.what ≡ calls ++ left
  pub are : AreJobsFrom d s e 0 calls jobs
  pub at : index ≡ length calls
  pub text : out ≡ out_before ++ text_of (map job_line jobs)
  pub sent : sends ≡ sends_before ++ sent_by_jobs jobs

pub done_more : (d : SetupData) (s : State) (e : Entry) (out_before sends_before : List ℕ) (call : JobCall)
    (queue left : List JobCall) (index : ℕ) (out sends next_out next_sends : List ℕ) (reply : Reply) (job : JobSeen)
    → queue ≡ call ∷ left → AreDone d s e out_before sends_before queue index out sends → IsJobReply d s call reply → job ≡ entry_job e index reply
    → next_out ≡ out ++ ended (job_line job) → next_sends ≡ sends ++ numbers_of (sends_of_reply reply) → AreDone d s e out_before sends_before left (index + 1) next_out next_sends
done_more d s e out_before sends_before call queue left index out sends next_out next_sends reply job first done is seen text sent =
    let at : 0 + length done.calls ≡ index = omega (arith, done.at) in
    let job_is : entry_job e (0 + length done.calls) reply ≡ job = ap (λ k. entry_job e k reply) at ∙ sym seen in
    let lines : text_of (map job_line (done.jobs ++ job ∷ [])) ≡ text_of (map job_line done.jobs) ++ ended (job_line job) =
    ap text_of (map-append job_line done.jobs (job ∷ [])) ∙ text_of-append (map job_line done.jobs) (job_line job ∷ [])
    ∙ ap (λ t. text_of (map job_line done.jobs) ++ t) (append-nil (ended (job_line job))) in
    let numbers : sent_by_jobs (done.jobs ++ job ∷ []) ≡ sent_by_jobs done.jobs ++ numbers_of (sends_of_reply reply) =
    ap numbers_of (flat (done.jobs) job) ∙ numbers-append (flat_map (λ (j : JobSeen). sends_of_reply j.reply) done.jobs) (sends_of_reply job.reply)
    ∙ ap (λ (j : JobSeen). sent_by_jobs done.jobs ++ numbers_of (sends_of_reply j.reply)) seen in
    record {
      calls = done.calls ++ call ∷ [];
      jobs = done.jobs ++ job ∷ [];
      all = done.all ∙ ap (λ q. done.calls ++ q) first ∙ sym (append_assoc done.calls (call ∷ []) left);
      are = subst (λ j. AreJobsFrom d s e 0 (done.calls ++ call ∷ []) (done.jobs ++ j ∷ [])) job_is (from_push d s e 0 done.calls done.jobs call reply done.are is);
      at = omega (arith, done.at, length-append done.calls (call ∷ []));
      text = text ∙ ap (λ t. t ++ ended (job_line job)) done.text ∙ append_assoc out_before (text_of (map job_line done.jobs)) (ended (job_line job)) ∙ ap (λ t. out_before ++ t) (sym lines);
      sent = sent ∙ ap (λ t. t ++ numbers_of (sends_of_reply reply)) done.sent
          ∙ append_assoc sends_before (sent_by_jobs done.jobs) (numbers_of (sends_of_reply reply)) ∙ ap (λ t. sends_before ++ t) (sym numbers);
    }
  where
    flat : (jobs : List JobSeen) (j : JobSeen) → flat_map (λ (x : JobSeen). sends_of_reply x.reply) (jobs ++ j ∷ []) ≡ flat_map (λ (x : JobSeen). sends_of_reply x.reply) jobs ++ sends_of_reply j.reply
    flat [] j = append-nil (sends_of_reply j.reply)
    flat (x ∷ jobs) j =
        ap (λ t. sends_of_reply x.reply ++ t) (flat jobs j) ∙ sym (append_assoc (sends_of_reply x.reply) (flat_map (λ (y : JobSeen). sends_of_reply y.reply) jobs) (sends_of_reply j.reply))

pub done_all : (d : SetupData) (s : State) (e : Entry) (out_before sends_before : List ℕ) (queue : List JobCall) (index : ℕ) (out sends : List ℕ) → length queue ≡ 0
    → AreDone d s e out_before sends_before queue index out sends
    → (own : List JobSeen) × AreJobsFrom d s e 0 (answer_calls e.what) own × (out ≡ out_before ++ text_of (map job_line own)) × (sends ≡ sends_before ++ sent_by_jobs own)
done_all d s e out_before sends_before [] index out sends none done =
    (done.jobs, subst (λ l. AreJobsFrom d s e 0 l done.jobs) (sym (done.all ∙ append-nil done.calls)) done.are, done.text, done.sent)
done_all d s e out_before sends_before (c ∷ queue) index out sends none done = absurd (cc (none))

-- the lines of the first calls are longer than the room, and so are those of all
pub done_short : (d : SetupData) (s : State) (e : Entry) (out_before sends_before : List ℕ) (left : List JobCall) (index : ℕ) (out sends : List ℕ) (room : ℕ)
    → AreDone d s e out_before sends_before left index out sends → room < length out → (own : List JobSeen) → AreJobsFrom d s e 0 (answer_calls e.what) own → AreLonger room out_before own
done_short d s e out_before sends_before left index out sends room done long own are =
    let front = from_front d s e 0 done.calls left done.jobs own done.are (subst (λ l. AreJobsFrom d s e 0 l own) done.all are) in
    let lines : text_of (map job_line own) ≡ text_of (map job_line done.jobs) ++ text_of (map job_line front.0) =
    ap (λ js. text_of (map job_line js)) front.1 ∙ ap text_of (map-append job_line done.jobs front.0) ∙ text_of-append (map job_line done.jobs) (map job_line front.0) in
    let first = ap length done.text ∙ length-append out_before (text_of (map job_line done.jobs)) in
    let whole = length-append out_before (text_of (map job_line own)) in
    let parts = ap length lines ∙ length-append (text_of (map job_line done.jobs)) (text_of (map job_line front.0)) in
    omega (arith, long, first, whole, parts)

-- a call that is done belongs to the state, and its index has 32 bits
pub call_belongs : (d : SetupData) (s : State) (e : Entry) (out_before sends_before : List ℕ) (call : JobCall) (queue left : List JobCall) (index : ℕ) (out sends : List ℕ) → queue ≡ call ∷ left
    → All (BelongsTo s) (answer_calls e.what) → length (answer_calls e.what) < 2 ^ 32 → AreDone d s e out_before sends_before queue index out sends → BelongsTo s call × (index + 1 < 2 ^ 32 + 1)
call_belongs d s e out_before sends_before call queue left index out sends first belong few done =
    let all : answer_calls e.what ≡ done.calls ++ call ∷ left = done.all ∙ ap (λ q. done.calls ++ q) first in
    let long : length (answer_calls e.what) ≡ length done.calls + length (call ∷ left) = ap length all ∙ length-append done.calls (call ∷ left) in
    let within : length done.calls < length (answer_calls e.what) = omega (arith, long) in
    let read : get_or (answer_calls e.what) (length done.calls) call ≡ call = ap (λ l. get_or l (length done.calls) call) all ∙ here done.calls in
    (subst (BelongsTo s) read (belong (length done.calls) call within), omega (arith, done.at, within, few))
  where
    here : (calls : List JobCall) → get_or (calls ++ call ∷ left) (length calls) call ≡ call
    here [] = refl
    here (c ∷ calls) = here calls
