-- A report shows one history alone.
use Rattle.std.proofs.Common.{◌≡◌, ◌<◌, ◌^◌, ℕ, ◌+◌, List, [], ◌∷◌, ◌++◌, map, length, get_or, refl, sym, ap, subst, ◌∙◌, arith}
use Rattle.std.specs.Prelude.{All, Contains, IsPermutation, filter}
use Rattle.std.proofs.lemmas.List.{get_or-map, length-map}
use Rattle.std.proofs.lemmas.List.Elements.{All-head, All-tail}
use Rattle.std.proofs.lemmas.List.Sorted.{Contains-permutation}
use Rattle.spin_table.specs.Setups.{SetupData}
use Rattle.spin_table.specs.States.{State}
use Rattle.spin_table.specs.Steps.{IsStep}
use Rattle.spin_table.proofs.StepUniqueness.{one_step}
use Rattle.spin_word.specs.declared.command.Command.{Command}
use Rattle.spin_word.specs.declared.work.Deed.{Deed}
use Rattle.spin_proto.specs.declared.deed.JobCall.{JobCall}
use Rattle.spin_proto.specs.Replies.{IsDeedReply}
use Rattle.spin_report.specs.declared.entry.What.{What}
use Rattle.spin_report.specs.declared.entry.What.TheVariants as what
use Rattle.spin_report.specs.declared.entry.Entry.{Entry}
use Rattle.spin_text.specs.Words.{Word}
use Rattle.spin_report.specs.Lines.{what_words, entry_line, JobSeen}
use Rattle.spin_report.specs.Histories.{HistorySeen, report_lines, report_text, entries_of}
use Rattle.spin_report.specs.Legal.{Answers, IsLegal}
use Rattle.spin_report.specs.Jobs.{answer_calls, entry_job, AreJobsFrom, AreJobs}
use Rattle.spin_report.specs.Asked.{Numbered, asked_by, asked_of, AreApart}
use Rattle.spin_text.specs.Digits.{begins_with_digit}
use Rattle.spin_report.specs.Laws.{cycle_told, HasNumbers, ReportTells}
use Rattle.spin_report.proofs.PlainWords.{same_lines}
use Rattle.spin_report.proofs.ReportLines.{report_are_lines, digits_tell}
use Rattle.spin_report.proofs.EntryLines.{SameHead, same_head, same_verdict}
use Rattle.spin_report.proofs.SegmentLines.{same_segments}
use Rattle.spin_report.proofs.AnswerUniqueness.{one_reply, one_job_reply, one_answer, same_next}

abbrev rest : List Word → List Word
rest [] = []
rest (w ∷ ws) = ws

-- what was asked, and the words of the line, tell the answer
same_what : (d : SetupData) (state one two : State) (p q : ℕ) (w v : What) → asked_by w ≡ asked_by v → what_words p w ≡ what_words q v
    → All (λ n. n < 2 ^ 64) (cycle_told w) → All (λ n. n < 2 ^ 64) (cycle_told v) → Answers d state w one → Answers d state v two → w ≡ v
same_what d state one two p q (what.Command c x) (what.Command e y) asked words h k a b =
    let command : c ≡ e = cc (asked) in
    let step = one_step d state e x y one two (subst (λ (z : Command). IsStep d state z x one) command a) b in
    let verdict : x ≡ y = same_verdict x y step.0 h k (ap rest words) in
    λ i. what.Command (command i) (verdict i)
same_what d state one two p q (what.Command c x) (what.Deed f r) asked words h k a b = absurd (cc (asked))
same_what d state one two p q (what.Deed f r) (what.Command c x) asked words h k a b = absurd (cc (asked))
same_what d state one two p q (what.Deed f r) (what.Deed g t) asked words h k a b =
    let deed : f ≡ g = cc (asked) in
    let reply : r ≡ t = one_reply d state g r t (subst (λ (x : Deed). IsDeedReply d state x r) deed a.0) b.0 in
    λ i. what.Deed (deed i) (reply i)

same_jobs_from : (d : SetupData) (state : State) (entry : Entry) (n : ℕ) (calls : List JobCall) (js ks : List JobSeen)
    → AreJobsFrom d state entry n calls js → AreJobsFrom d state entry n calls ks → js ≡ ks
same_jobs_from d state entry n [] js ks h k = h ∙ sym k
same_jobs_from d state entry n (call ∷ calls) js ks h k =
    let reply = one_job_reply d state call h.0 k.0 h.2 k.2 in
    let others = same_jobs_from d state entry (n + 1) calls h.1 k.1 h.4 k.4 in
    h.3 ∙ (λ i. entry_job entry n (reply i) ∷ others i) ∙ sym k.3

pub one_list_of_jobs : (d : SetupData) (state : State) (entries : List Entry) (js ks : List JobSeen) → AreJobs d state entries js → AreJobs d state entries ks → js ≡ ks
one_list_of_jobs d state [] js ks h k = h ∙ sym k
one_list_of_jobs d state (entry ∷ entries) js ks h k =
    let next : h.0 ≡ k.0 = same_next d state entry h.0 k.0 h.3 k.3 in
    let own = same_jobs_from d k.0 entry 0 (answer_calls entry.what) h.1 k.1 (subst (λ s. AreJobsFrom d s entry 0 (answer_calls entry.what) h.1) next h.4) k.4 in
    let others = one_list_of_jobs d k.0 entries h.2 k.2 (subst (λ s. AreJobs d s entries h.2) next h.5) k.5 in
    h.6 ∙ (λ i. own i ++ others i) ∙ sym k.6

-- what each entry answers is among what was asked
pub all_asked : (asked : List Numbered) (entries : List Entry) → IsPermutation (map asked_of entries) asked → All (λ (e : Entry). Contains asked (asked_of e)) entries
all_asked asked entries once = λ j d lt.
    let e = get_or entries j d in
    let here : j < length (map asked_of entries) = omega (arith, length-map entries asked_of) in
    let found : Contains (map asked_of entries) (asked_of e) = (j, here, get_or-map asked_of entries j d (asked_of e) lt) in
    Contains-permutation (map asked_of entries) asked (asked_of e) once found

pub same_entries : (d : SetupData) (asked : List Numbered) → AreApart asked → (xs ys : List Entry) (state one two : State)
    → IsLegal d state xs one → IsLegal d state ys two → All (λ (e : Entry). Contains asked (asked_of e)) xs
    → All (λ (e : Entry). Contains asked (asked_of e)) ys → All HasNumbers xs → All HasNumbers ys → map entry_line xs ≡ map entry_line ys → xs ≡ ys
same_entries d asked apart [] [] state one two p q a b h k same = refl
same_entries d asked apart [] (y ∷ ys) state one two p q a b h k same = absurd (cc (same))
same_entries d asked apart (x ∷ xs) [] state one two p q a b h k same = absurd (cc (same))
same_entries d asked apart (x ∷ xs) (y ∷ ys) state one two p q a b h k same =
    let line : entry_line x ≡ entry_line y = cc (same) in
    let lines : map entry_line xs ≡ map entry_line ys = cc (same) in
    let of_x : HasNumbers x = All-head HasNumbers x xs h in
    let of_y : HasNumbers y = All-head HasNumbers y ys k in
    let head : SameHead x y = same_head x y of_x of_y line in
    let work : asked_of x ≡ asked_of y =
    apart (asked_of x) (asked_of y) (All-head (λ (e : Entry). Contains asked (asked_of e)) x xs a) (All-head (λ (e : Entry). Contains asked (asked_of e)) y ys b) head.line head.part in
    let answer : x.what ≡ y.what = same_what d state p.0 q.0 x.part y.part x.what y.what (ap (λ (n : Numbered). n.asked) work) head.words of_x.cycle of_y.cycle p.1.0 q.1.0 in
    let entry : x ≡ y = λ i. record { place = head.place i; lane = head.lane i; line = head.line i; part = head.part i; what = answer i } in
    let next : p.0 ≡ q.0 = one_answer d state y.what p.0 q.0 (subst (λ w. Answers d state w p.0) answer p.1.0) q.1.0 in
    let others = same_entries d asked apart xs ys q.0 one two (subst (λ s. IsLegal d s xs one) next p.2) q.2
    (All-tail (λ (e : Entry). Contains asked (asked_of e)) x xs a) (All-tail (λ (e : Entry). Contains asked (asked_of e)) y ys b) (All-tail HasNumbers x xs h) (All-tail HasNumbers y ys k) lines in
    λ i. entry i ∷ others i

-- reports of one text have the same lines
pub same_report : (h k : HistorySeen) → report_text h ≡ report_text k → report_lines h ≡ report_lines k
same_report h k same = same_lines (report_lines h) (report_lines k) (report_are_lines h) (report_are_lines k) same

-- and so the same lines of entries
pub same_entry_lines : (h k : HistorySeen) → report_lines h ≡ report_lines k → map entry_line (entries_of h) ≡ map entry_line (entries_of k)
same_entry_lines h k lines = sym (digits_tell h) ∙ ap (filter begins_with_digit) lines ∙ digits_tell k

-- histories of one report are one
pub law : ReportTells
law d start asked h k apart one two numbers more same =
    let lines = same_report h k same in
    same_segments h k lines (
    same_entries d asked apart (entries_of h) (entries_of k) start one.last two.last one.legal two.legal
    (all_asked asked (entries_of h) one.once) (all_asked asked (entries_of k) two.once) numbers more (same_entry_lines h k lines))
