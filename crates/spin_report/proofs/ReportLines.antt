-- The lines of a report: none has a line feed, and just those of entries begin with a digit.
use Rattle.std.proofs.Common.{◌≡◌, ◌<◌, ℕ, ◌+◌, Bool, true, false, cond, List, [], ◌∷◌, ◌++◌, map, length, refl, sym, ap, ◌∙◌, arith}
use Rattle.std.specs.Prelude.{◌==◌, filter, Option, Some, None, decimal, codes}
use Rattle.std.specs.List.{AllByRecursion, flat_map, enumerate_from}
use Rattle.std.proofs.lemmas.Bool.Decides.{nat_tests}
use Rattle.std.proofs.lemmas.List.{append-nil, map-append}
use Rattle.std.proofs.lemmas.List.Elements.{filter-append}
use Rattle.spin_word.specs.declared.command.Op.{Op}
use Rattle.spin_word.specs.declared.command.Op.TheVariants as op
use Rattle.spin_headers.specs.declared.fault.HeaderFault.{HeaderFault}
use Rattle.spin_headers.specs.declared.fault.HeaderFault.TheVariants as fault
use Rattle.spin_table.specs.declared.refusal.Refusal.{Refusal}
use Rattle.spin_table.specs.declared.refusal.Refusal.TheVariants as refusal
use Rattle.spin_table.specs.declared.refusal.Verdicted.{Verdicted}
use Rattle.spin_table.specs.declared.refusal.Verdicted.TheVariants as verdicted
use Rattle.spin_raise.specs.declared.answer.Answer.{Answer}
use Rattle.spin_raise.specs.declared.answer.Answer.TheVariants as answer
use Rattle.spin_word.specs.declared.work.Deed.TheVariants as deed
use Rattle.spin_proto.specs.declared.reply.Step.{Step}
use Rattle.spin_proto.specs.declared.reply.Step.TheVariants as step
use Rattle.spin_proto.specs.declared.reply.Reply.{Reply}
use Rattle.spin_proto.specs.declared.reply.Reply.TheVariants as reply
use Rattle.spin_report.specs.declared.entry.What.{What}
use Rattle.spin_report.specs.declared.entry.What.TheVariants as what
use Rattle.spin_report.specs.declared.entry.Entry.{Entry}
use Rattle.spin_report.specs.declared.text.CaptureCounts.{CaptureCounts}
use Rattle.spin_text.specs.Words.{Word}
use Rattle.spin_grammar.specs.Forms.{op_word}
use Rattle.spin_report.specs.Verdicts.{refusal_told, refusal_numbers, verdict_words}
use Rattle.spin_report.specs.Replies.{answer_words, fault_word, step_words, reply_words}
use Rattle.spin_report.specs.Lines.{what_words, line_word, entry_line, JobSeen, job_line}
use Rattle.spin_report.specs.Histories.{Retirement, SegmentSeen, HistorySeen, retire_line, segment_line}
use Rattle.spin_report.specs.Histories.{lost_line, losses, lost_lines, segment_lines, capture_words, end_line, report_lines, entries_of}
use Rattle.spin_text.specs.Digits.{begins_with_digit}
use Rattle.spin_report.proofs.PlainWords.{IsWord, AreWords, IsDigit, IsLine, each_append, each_map, each_flat_map, decimal_digits, decimal_some, decimal_word, dotted_word, words_line}

-- ---- each word is a word

op_is_word : (o : Op) → IsWord (op_word o)
op_is_word op.Install = refl
op_is_word op.Remove = refl
op_is_word op.Replace = refl
op_is_word op.Default = refl
op_is_word op.NoDefault = refl

name_is_word : (r : Refusal) → IsWord (refusal_told r).1
name_is_word refusal.UnknownEvent = refl
name_is_word refusal.UnknownModule = refl
name_is_word refusal.UnknownHandler = refl
name_is_word refusal.UnknownGuard = refl
name_is_word refusal.UnknownBinding = refl
name_is_word refusal.WrongType = refl
name_is_word refusal.Downward = refl
name_is_word refusal.WrongMode = refl
name_is_word (refusal.Denied rule) = refl
name_is_word refusal.TooMany = refl
name_is_word (refusal.Conflict cycle) = refl
name_is_word (refusal.ForcedMode rule) = refl

verdict_are_words : (v : Verdicted) → AreWords (verdict_words v)
verdict_are_words verdicted.Accepted = (refl, tt)
verdict_are_words (verdicted.Refused r) =
    (refl, (decimal_word (refusal_told r).0, (name_is_word r, each_map IsWord decimal decimal_word (refusal_numbers r))))

answer_are_words : (a : Answer) → AreWords (answer_words a)
answer_are_words (answer.Value value) = (refl, (decimal_word value, tt))
answer_are_words answer.Done = (refl, tt)
answer_are_words (answer.Default None) = (refl, tt)
answer_are_words (answer.Default (Some value)) = (refl, (decimal_word value, tt))
answer_are_words answer.NoHandler = (refl, tt)

fault_is_word : (f : HeaderFault) → IsWord (fault_word f)
fault_is_word fault.Short = refl
fault_is_word fault.Version = refl
fault_is_word fault.HeaderLength = refl
fault_is_word fault.TotalLength = refl
fault_is_word fault.Checksum = refl
fault_is_word fault.Fragment = refl
fault_is_word fault.UdpLength = refl

step_are_words : (s : Step) → AreWords (step_words s)
step_are_words (step.Run event number) = (refl, (decimal_word event, (decimal_word number, tt)))
step_are_words (step.Result value) = (refl, (decimal_word value, tt))
step_are_words (step.Send endpoint bytes) = (refl, (decimal_word endpoint, (decimal_word _, tt)))
step_are_words (step.Up event) = (refl, (decimal_word event, tt))
step_are_words (step.Back a) = (refl, answer_are_words a)
step_are_words (step.Dropped f) = (refl, (fault_is_word f, tt))
step_are_words (step.Job event number) = (refl, (decimal_word event, (decimal_word number, tt)))

reply_are_words : (r : Reply) → AreWords (reply_words r)
reply_are_words (reply.Ran a trace jobs) =
    each_append IsWord (flat_map step_words trace) (codes "=" ∷ answer_words a) (each_flat_map IsWord step_words step_are_words trace) (refl, answer_are_words a)
reply_are_words (reply.Queued call) = (refl, tt)
reply_are_words reply.UnknownEvent = (refl, (refl, (refl, tt)))
reply_are_words reply.WrongArgs = (refl, (refl, (refl, tt)))
reply_are_words reply.Spent = (refl, (refl, (refl, tt)))

either_is_word : (b : Bool) (v w : Word) → IsWord v → IsWord w → IsWord (cond b v w)
either_is_word true v w h k = h
either_is_word false v w h k = k

what_are_words : (part : ℕ) (w : What) → AreWords (what_words part w)
what_are_words part (what.Command command verdict) = (op_is_word command.op, verdict_are_words verdict)
what_are_words part (what.Deed (deed.Raise event args) r) = (either_is_word (part == 0) (codes "raise") (codes "packet") refl refl, reply_are_words r)
what_are_words part (what.Deed (deed.Later event args) r) = (refl, reply_are_words r)

line_is_word : (line part : ℕ) → IsWord (line_word line part)
line_is_word line part = either_is_word (part == 0) (decimal line) (decimal line ++ 46 ∷ decimal part) (decimal_word line) (dotted_word line part)

-- the words of an entry's line
abbrev pub entry_words : Entry → List Word
entry_words e = decimal e.place ∷ decimal e.lane ∷ line_word e.line e.part ∷ what_words e.part e.what

-- the words of a job's line
abbrev job_words : JobSeen → List Word
job_words j = codes "job" ∷ decimal j.place ∷ decimal j.lane ∷ line_word j.line j.part ∷ decimal j.index ∷ reply_words j.reply

pub entry_are_words : (e : Entry) → AreWords (entry_words e)
entry_are_words e = (decimal_word e.place, (decimal_word e.lane, (line_is_word e.line e.part, what_are_words e.part e.what)))

job_are_words : (j : JobSeen) → AreWords (job_words j)
job_are_words j =
    (refl, (decimal_word j.place, (decimal_word j.lane, (line_is_word j.line j.part, (decimal_word j.index, reply_are_words j.reply)))))

-- ---- no line has a line feed

stood_is_word : (b : Bool) → IsWord (cond b (codes "ok") (codes "unknown"))
stood_is_word b = either_is_word b (codes "ok") (codes "unknown") refl refl

entry_is_line : (e : Entry) → IsLine (entry_line e)
entry_is_line e = words_line (entry_words e) (entry_are_words e)

job_is_line : (j : JobSeen) → IsLine (job_line j)
job_is_line j = words_line (job_words j) (job_are_words j)

retire_is_line : (r : Retirement) → IsLine (retire_line r)
retire_is_line r = words_line (codes "retire" ∷ decimal r.endpoint ∷ cond r.stood (codes "ok") (codes "unknown") ∷ []) (refl, (decimal_word r.endpoint, (stood_is_word r.stood, tt)))

segment_is_line : (number start : ℕ) → IsLine (segment_line number start)
segment_is_line number start = words_line (codes "segment" ∷ decimal number ∷ codes "at" ∷ decimal start ∷ []) (refl, (decimal_word number, (refl, (decimal_word start, tt))))

lost_is_line : (lost : ℕ × ℕ) → IsLine (lost_line lost)
lost_is_line lost = words_line (codes "lost" ∷ decimal lost.0 ∷ decimal lost.1 ∷ []) (refl, (decimal_word lost.0, (decimal_word lost.1, tt)))

capture_are_words : (c : Option CaptureCounts) → AreWords (capture_words c)
capture_are_words None = tt
capture_are_words (Some c) =
    (refl, (decimal_word c.records, (refl, (decimal_word c.used, (refl, (decimal_word c.cut, tt))))))

end_is_line : (length : ℕ) (c : Option CaptureCounts) → IsLine (end_line length c)
end_is_line length c = words_line (codes "end" ∷ decimal length ∷ capture_words c) (refl, (decimal_word length, capture_are_words c))

segment_are_lines : (p : ℕ × SegmentSeen) → AllByRecursion IsLine (segment_lines p.0 p.1)
segment_are_lines p =
    let n = p.0 in
    let s = p.1 in
    let retired = each_append IsLine (map retire_line s.retired) (segment_line n s.start ∷ []) (each_map IsLine retire_line retire_is_line s.retired) (segment_is_line n s.start, tt) in
    let entries = each_append IsLine (map retire_line s.retired ++ segment_line n s.start ∷ []) (map entry_line s.entries) retired (each_map IsLine entry_line entry_is_line s.entries) in
    let jobs = each_append IsLine (map retire_line s.retired ++ segment_line n s.start ∷ [] ++ map entry_line s.entries) (map job_line s.jobs) entries (each_map IsLine job_line job_is_line s.jobs) in
    each_append IsLine (map retire_line s.retired ++ segment_line n s.start ∷ [] ++ map entry_line s.entries ++ map job_line s.jobs)
    (lost_lines s.lost) jobs (each_map IsLine lost_line lost_is_line (losses s.lost))

abbrev pub lines_at : ℕ × SegmentSeen → List (List ℕ)
lines_at p = segment_lines p.0 p.1

pub report_are_lines : (h : HistorySeen) → AllByRecursion IsLine (report_lines h)
report_are_lines h = (
  words_line (codes "report" ∷ codes "1" ∷ []) (refl, (refl, tt)),
  each_append IsLine (flat_map lines_at (enumerate_from 0 h.segments)) (end_line h.end h.capture ∷ [])
      (each_flat_map IsLine lines_at segment_are_lines (enumerate_from 0 h.segments)) (end_is_line h.end h.capture, tt),
)

-- ---- just the lines of entries begin with a digit

pub none_pass : {A X : Type 0} (p : X → Bool) (f : A → X) → ((a : A) → p (f a) ≡ false) → (ss : List A) → filter p (map f ss) ≡ []
none_pass p f all [] = refl
none_pass p f all (a ∷ ss) = rw (all a) (none_pass p f all ss)

pub all_pass : {A X : Type 0} (p : X → Bool) (f : A → X) → ((a : A) → p (f a) ≡ true) → (ss : List A) → filter p (map f ss) ≡ map f ss
all_pass {X = X} p f all [] = refl
all_pass {X = X} p f all (a ∷ ss) = rw (all a) (ap (λ (xs : List X). f a ∷ xs) (all_pass p f all ss))

only_third : {X : Type 0} (p : X → Bool) (a b c d e : List X) → filter p a ≡ [] → filter p b ≡ [] → filter p c ≡ c → filter p d ≡ [] → filter p e ≡ [] → filter p (a ++ b ++ c ++ d ++ e) ≡ c
only_third p a b c d e ha hb hc hd he = simp filter-append (rw (ha, hb, hc, hd, he) (simp append-nil))

begins : (w more : List ℕ) → AllByRecursion IsDigit w → 0 < length w → begins_with_digit (w ++ more) ≡ true
begins [] more h some = absurd (omega arith)
begins (b ∷ bs) more h some = grind (arith, nat_tests, h.0.0, h.0.1)

pub entry_begins : (e : Entry) → begins_with_digit (entry_line e) ≡ true
entry_begins e = begins (decimal e.place) _ (decimal_digits e.place) (decimal_some e.place)

digits_of_segment : (p : ℕ × SegmentSeen) → filter begins_with_digit (segment_lines p.0 p.1) ≡ map entry_line p.1.entries
digits_of_segment p =
    let s = p.1 in
    only_third begins_with_digit (map retire_line s.retired) (segment_line p.0 s.start ∷ []) (map entry_line s.entries) (map job_line s.jobs) (lost_lines s.lost)
    (none_pass begins_with_digit retire_line (λ r. refl) s.retired) refl (all_pass begins_with_digit entry_line entry_begins s.entries)
    (none_pass begins_with_digit job_line (λ j. refl) s.jobs) (none_pass begins_with_digit lost_line (λ l. refl) (losses s.lost))

all_entries : (n : ℕ) (ss : List SegmentSeen) → filter begins_with_digit (flat_map lines_at (enumerate_from n ss)) ≡ map entry_line (flat_map (λ s. s.entries) ss)
all_entries n [] = refl
all_entries n (s ∷ ss) =
    let rest = all_entries (n + 1) ss in
    filter-append begins_with_digit (lines_at (n, s)) (flat_map lines_at (enumerate_from (n + 1) ss))
    ∙ (λ i. digits_of_segment (n, s) i ++ rest i)
    ∙ sym (map-append entry_line s.entries (flat_map (λ (t : SegmentSeen). t.entries) ss))

-- the lines that begin with a digit are those of the entries
pub digits_tell : (h : HistorySeen) → filter begins_with_digit (report_lines h) ≡ map entry_line (entries_of h)
digits_tell h =
    filter-append begins_with_digit (flat_map lines_at (enumerate_from 0 h.segments)) (end_line h.end h.capture ∷ [])
    ∙ append-nil (filter begins_with_digit (flat_map lines_at (enumerate_from 0 h.segments)))
    ∙ all_entries 0 h.segments
