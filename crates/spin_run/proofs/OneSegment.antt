-- One segment, from the steps that it is made of.
use Rattle.std.proofs.Common.{◌≡◌, ◌<◌, ◌≤◌, ◌+◌, ℕ, List, [], ◌∷◌, ◌++◌, length, take, drop, map, Option, Result, Ok, Err, get_or, refl, sym, ap, subst, ◌∙◌, inl, inr, ◌⊎◌, arith, append_assoc}
use Rattle.std.specs.Prelude.{slice_index_or, sum_by, OnOk}
use Rattle.std.specs.List.{flat_map, enumerate_from, range_with_len}
use Rattle.std.specs.Io.KnownBytes.{Appends}
use Rattle.std.proofs.lemmas.List.{map-append, length-take, length-drop, take-take, drop-take, take_more}
use Rattle.std.proofs.lemmas.List.Sums.{sum_by-cons, sum_by_push, sum_by-take-le}
use Rattle.spin_pcap.specs.declared.next.Next.{Next}
use Rattle.spin_pcap.specs.declared.fault.PcapFault.{PcapFault}
use Rattle.spin_pcap.specs.Passing.{ReaderState}
use Rattle.spin_outside.specs.Seen.{SinkSeen}
use Rattle.spin_outside.specs.Sources.{SourceSeen}
use Rattle.spin_endpoint.specs.declared.ends.TheConstants.{MAX_ENDPOINTS}
use Rattle.spin_endpoint.specs.Named.{NamedEnd}
use Rattle.spin_endpoint.specs.Sends.{SentSeen, StopsAt, all_received, lost_to}
use Rattle.spin_text.specs.Words.{ended, text_of}
use Rattle.spin_table.specs.States.{State}
use Rattle.spin_proto.specs.declared.deed.Job.{Job}
use Rattle.spin_proto.specs.declared.reply.Reply.{Reply}
use Rattle.spin_word.specs.declared.work.Work.{Work}
use Rattle.spin_word.specs.declared.work.Work.TheVariants as work
use Rattle.spin_script.specs.States.{deed_count}
use Rattle.spin_script.specs.declared.script.Line.{Line}
use Rattle.spin_script.specs.declared.script.Segment.{Segment}
use Rattle.spin_report.specs.declared.entry.Entry.{Entry}
use Rattle.spin_report.specs.Lines.{JobSeen, entry_line, job_line}
use Rattle.spin_report.specs.Histories.{SegmentSeen, retire_line, segment_line, segment_lines, lost_lines}
use Rattle.spin_report.specs.Segments.{records_wanted, asked_at, asked_in, wanted_by, IsWoven}
use Rattle.spin_report.specs.Runs.{RunPoint, sends_of_reply, sends_of, retirements, lost_counts}
use Rattle.spin_run.specs.declared.end.RunEnd.{RunEnd}
use Rattle.spin_run.specs.declared.end.RunEnd.TheVariants as end
use Rattle.spin_run.specs.Segments.{jobs_seen}
use Rattle.spin_run.specs.Records.{room_of, IsTakenPast}
use Rattle.spin_run.specs.Ends.{segment_text, Writes}
use Rattle.spin_run.specs.Inner.Reading.{given_by, GivesFrames, Reads, TakesFrames}
use Rattle.spin_run.specs.Inner.Lining.{counts_to}
use Rattle.spin_run.specs.Inner.Sending.{sends_made, SendsAll}
use Rattle.spin_run.specs.Inner.Steps.{RunState, standing, Setting, RunsFrom, retired_for, HasRunOne, StopsOne, HasTold, OneBy}
use Rattle.spin_run.specs.Summaries.{Counts, counts_in}
use Rattle.spin_run.specs.Inner.Tallies.{TalliesOn, Tells}
use Rattle.spin_run.specs.Inner.Writing.{joined}
use Rattle.spin_run.specs.declared.trail.EntryIndex.{EntryIndex}
use Rattle.spin_run.specs.declared.trail.Trail.{Trail}
use Rattle.spin_run.specs.Trails.{AreMarksOf}
use Rattle.spin_run.specs.Inner.Marks.{sends_in}
use Rattle.spin_run.proofs.JoinedTexts.{joined_ended, Appends-none}
use Rattle.spin_run.proofs.KeptMarks.{sends_told}
use Rattle.spin_run.proofs.Left.{some_left}
use Rattle.spin_run.proofs.ReaderCalls.{ReadsFrames}
use Rattle.spin_run.proofs.CaptureBytes.{past_none, takes_before, takes_reading, takes_told}

-- ---- the records that a segment asks with

take_front : (n m : ℕ) (xs : List (List ℕ)) → take n (take (n + m) xs) ≡ take n xs
take_front n m xs = take-take n (n + m) xs (omega arith)

-- lines ask with no more records than they want
asked_front : (lines : List Line) (records : List (List ℕ)) → asked_in lines (take (wanted_by lines) records) ≡ asked_in lines records
asked_front [] records = refl
asked_front (line ∷ lines) records =
    let w = records_wanted line.work in
    let all : wanted_by (line ∷ lines) ≡ w + wanted_by lines = sum_by-cons (λ (l : Line). records_wanted l.work) line lines in
    let front : take w (take (wanted_by (line ∷ lines)) records) ≡ take w records = ap (λ n. take w (take n records)) all ∙ take_front w (wanted_by lines) records in
    let back : drop w (take (wanted_by (line ∷ lines)) records) ≡ take (wanted_by lines) (drop w records) = ap (λ n. drop w (take n records)) all ∙ drop-take w (wanted_by lines) records in
    (λ i. asked_at line (front i) ++ asked_in lines (back i)) ∙ ap (λ x. asked_at line (take w records) ++ x) (asked_front lines (drop w records))

-- ---- sends

abbrev pub sends_from : List Entry → List JobSeen → List SentSeen
sends_from entries jobs = flat_map (λ e. sends_of e.what) entries ++ flat_map (λ job. sends_of_reply job.reply) jobs

of_jobs : (jobs : List Job) (replies : List Reply) → length replies ≡ length jobs → flat_map sends_of_reply replies ≡ flat_map (λ (job : JobSeen). sends_of_reply job.reply) (jobs_seen jobs replies)
of_jobs [] [] long = refl
of_jobs [] (r ∷ replies) long = absurd (omega (arith, long))
of_jobs (j ∷ jobs) [] long = absurd (omega (arith, long))
of_jobs (j ∷ jobs) (r ∷ replies) long = ap (λ x. sends_of_reply r ++ x) (of_jobs jobs replies (omega (arith, long)))

pub sends_are : (entries : List Entry) (jobs : List Job) (replies : List Reply) → length replies ≡ length jobs → sends_made entries replies ≡ sends_from entries (jobs_seen jobs replies)
sends_are entries jobs replies long = ap (λ x. flat_map (λ (e : Entry). sends_of e.what) entries ++ x) (of_jobs jobs replies long)

lost_from : (n : ℕ) (names : List (List ℕ)) (lost : List ℕ) (f : ℕ → ℕ) → ((k : ℕ) → k < n + length names → slice_index_or lost k 0 ≡ f k)
    → map (λ k. slice_index_or lost k 0) (range_with_len n (length names)) ≡ map (λ (one : ℕ × List ℕ). f one.0) (enumerate_from n names)
lost_from n [] lost f h = refl
lost_from n (name ∷ names) lost f h =
    let first = h n (omega arith) in
    let others = lost_from (n + 1) names lost f (λ k lt. h k (omega (arith, lt))) in
    λ i. first i ∷ others i

pub lost_are : (names : List (List ℕ)) (ends : List NamedEnd) (sends : List SentSeen) (lost : List ℕ) → length names ≤ MAX_ENDPOINTS
    → ((k : ℕ) → k < MAX_ENDPOINTS → slice_index_or lost k 0 ≡ lost_to names ends sends k) → counts_to lost (length names) ≡ lost_counts names ends sends
lost_are names ends sends lost few h = lost_from 0 names lost (lost_to names ends sends) (λ k lt. h k (omega (arith, lt, few)))

-- ---- the part of the history

abbrev pub part_of : Setting → Segment → RunState → List Entry → List JobSeen → SegmentSeen
part_of s segment before entries jobs = record {
  retired = retirements s.endpoints segment.retires before.outside.ends;
  start = before.state.place;
  entries = entries;
  jobs = jobs;
  lost = lost_counts s.endpoints (retired_for s segment before) (sends_from entries jobs);
}

-- how it leaves the standing
abbrev pub next_of : Setting → Segment → RunState → List (List ℕ) → State → List Entry → List JobSeen → RunPoint
next_of s segment before left state entries jobs = record {
  state = state;
  left = drop (wanted_by segment.lines) left;
  ends = all_received s.endpoints (sends_from entries jobs) (retired_for s segment before);
}

pub runs_to : (s : Setting) (segment : Segment) (before : RunState) (left frames : List (List ℕ)) (state : State) (entries : List Entry) (jobs : List JobSeen)
    → frames ≡ take (wanted_by segment.lines) left → IsWoven s.setup s.lanes (asked_in segment.lines frames) before.state state entries jobs
    → RunsFrom s segment before left (part_of s segment before entries jobs) (next_of s segment before left state entries jobs)
runs_to s segment before left frames state entries jobs read woven =
    let asked : asked_in segment.lines frames ≡ asked_in segment.lines left = ap (asked_in segment.lines) read ∙ asked_front segment.lines left in
    record {
      retired = refl;
      start = refl;
      woven = subst (λ x. IsWoven s.setup s.lanes x before.state state entries jobs) asked woven;
      left = refl;
      lost = refl;
      ends = refl;
    }

pub runs_one : (s : Setting) (segment : Segment) (before after : RunState) (left frames : List (List ℕ)) (entries : List Entry) (jobs : List JobSeen)
    → frames ≡ take (wanted_by segment.lines) left → IsWoven s.setup s.lanes (asked_in segment.lines frames) before.state after.state entries jobs
    → after.outside.ends ≡ all_received s.endpoints (sends_from entries jobs) (retired_for s segment before)
    → RunsFrom s segment before left (part_of s segment before entries jobs) (standing after (drop (wanted_by segment.lines) left))
runs_one s segment before after left frames entries jobs read woven ends =
    subst (λ (x : List NamedEnd). RunsFrom s segment before left (part_of s segment before entries jobs) (record { state = after.state; left = drop (wanted_by segment.lines) left; ends = x }))
    (sym ends)
    (runs_to s segment before left frames after.state entries jobs read woven)

-- ---- its text

lines_around : (number : ℕ) (part : SegmentSeen)
    → map retire_line part.retired ++ (segment_line number part.start ∷ (map entry_line part.entries ++ map job_line part.jobs ++ lost_lines part.lost)) ≡ segment_lines number part
lines_around number part =
    let r = map retire_line part.retired in
    let s = segment_line number part.start ∷ [] in
    let e = map entry_line part.entries in
    let j = map job_line part.jobs in
    let l = lost_lines part.lost in
    sym (ap (λ x. x ++ l) (append_assoc (r ++ s) e j) ∙ append_assoc (r ++ s) (e ++ j) l ∙ append_assoc r s (e ++ j ++ l))

pub text_is : (number : ℕ) (part : SegmentSeen) (retired lines : List (List ℕ)) → retired ≡ map ended (map retire_line part.retired)
    → lines ≡ retired ++ map ended (segment_line number part.start ∷ map entry_line part.entries ++ map job_line part.jobs ++ lost_lines part.lost) → joined lines ≡ segment_text number part
text_is number part retired lines first all =
    let rest = segment_line number part.start ∷ (map entry_line part.entries ++ map job_line part.jobs ++ lost_lines part.lost) in
    ap joined (all ∙ ap (λ x. x ++ map ended rest) first ∙ sym (map-append ended (map retire_line part.retired) rest))
    ∙ joined_ended (map retire_line part.retired ++ rest)
    ∙ ap text_of (lines_around number part)

pub total_is : (given given' : ℕ) (taken left : List (List ℕ)) (wanted : ℕ) → taken ≡ take wanted left → given' ≡ given + length taken → given' + length (drop wanted left) ≡ given + length left
total_is given given' taken left wanted is more = omega (arith, more, ap length is, length-take wanted left, length-drop wanted left)

-- ---- the sum of records wanted

wanted_few : (lines : List Line) → wanted_by lines ≤ sum_by (λ (l : Line). deed_count l.work) lines
wanted_few [] = omega arith
wanted_few (line ∷ lines) =
    let one = few line.work in
    omega (arith, one, wanted_few lines, sum_by-cons (λ (l : Line). records_wanted l.work) line lines, sum_by-cons (λ (l : Line). deed_count l.work) line lines)
  where
    few : (w : Work) → records_wanted w ≤ deed_count w
    few (work.Command c) = omega arith
    few (work.Deed d) = omega arith
    few (work.Packet event count) = omega arith

pub wanted_fits : (lines : List Line) (i : ℕ) (line : Line) → i < length lines → get_or lines i line ≡ line
    → wanted_by (take i lines) + records_wanted line.work ≤ sum_by (λ (l : Line). deed_count l.work) lines
wanted_fits lines i line lt is =
    let more : take (i + 1) lines ≡ take i lines ++ line ∷ [] = take_more lines i line lt ∙ ap (λ (x : Line). take i lines ++ x ∷ []) is in
    let sum : wanted_by (take (i + 1) lines) ≡ wanted_by (take i lines) + records_wanted line.work = ap wanted_by more ∙ sum_by_push (λ (l : Line). records_wanted l.work) (take i lines) line in
    omega (arith, sum, wanted_few (take (i + 1) lines), sum_by-take-le (λ (l : Line). deed_count l.work) lines (i + 1))

-- ---- the ends of a segment

-- the sink is as before
abbrev pub SameSink : RunState → RunState → Type 0
SameSink before after = after.outside.sink ≡ before.outside.sink

nothing : (before after : RunState) → SameSink before after → Writes before.outside after.outside []
nothing before after same = subst (λ (x : SinkSeen). Appends before.outside.sink.told x.told []) (sym same) (Appends-none before.outside.sink.told)

pub stops_retiring : (s : Setting) (number : ℕ) (segment : Segment) (before after : RunState) (left : List (List ℕ)) (rest : Option (Result Next PcapFault)) → SameSink before after
    → ((after.outside.ends ≡ before.outside.ends) ⊎ (after.outside.ends ≡ retired_for s segment before)) → StopsOne s number segment before after left rest end.NoMemory
stops_retiring s number segment before after left rest same (inl none) = (inl none, nothing before after same)
stops_retiring s number segment before after left rest same (inr all) = (inr (inl all), nothing before after same)

pub stops_reading_in : (s : Setting) (number : ℕ) (segment : Segment) (before after : RunState) (left : List (List ℕ)) (rest : Option (Result Next PcapFault))
    (wanted : ℕ) (capture : Option ReaderState) (stop : RunEnd) → SameSink before after → after.outside.ends ≡ retired_for s segment before
    → wanted ≡ wanted_by segment.lines → GivesFrames wanted before.capture capture (Err stop) left [] rest → StopsOne s number segment before after left rest stop
stops_reading_in s number segment before after left rest wanted capture (end.Capture n reason) same ends sum h = (h.1, subst (λ (k : ℕ). length left < k) sum h.0, ends, nothing before after same)
stops_reading_in s number segment before after left rest wanted capture end.ReadFault same ends sum h = (h.0, subst (λ (k : ℕ). 0 < k) sum h.1, ends, nothing before after same)
stops_reading_in s number segment before after left rest wanted capture end.NoMemory same ends sum h = (inr (inl ends), nothing before after same)
stops_reading_in s number segment before after left rest wanted capture end.Whole same ends sum h = absurd h
stops_reading_in s number segment before after left rest wanted capture end.WriteFault same ends sum h = absurd h
stops_reading_in s number segment before after left rest wanted capture (end.Endpoint p) same ends sum h = absurd h

-- what a segment has come to before its sends are made: the records that it took, and what its lanes answered
pub record HasAnswered (s : Setting) (segment : Segment) (before : RunState) (left : List (List ℕ)) (state : State)
    (entries : List Entry) (jobs : List Job) (replies : List Reply) (frames : List (List ℕ)) : Type 0 where
  pub read : frames ≡ take (wanted_by segment.lines) left
  pub woven : IsWoven s.setup s.lanes (asked_in segment.lines frames) before.state state entries (jobs_seen jobs replies)
  pub replies_are : length replies ≡ length jobs

pub stops_sending : (s : Setting) (number : ℕ) (segment : Segment) (before after : RunState) (left frames : List (List ℕ)) (rest : Option (Result Next PcapFault)) (state : State)
    (entries : List Entry) (jobs : List Job) (replies : List Reply) (stop : RunEnd) → SameSink before after → HasAnswered s segment before left state entries jobs replies frames
    → SendsAll s.endpoints (sends_made entries replies) (Err stop) (retired_for s segment before) after.outside.ends → StopsOne s number segment before after left rest stop
stops_sending s number segment before after left frames rest state entries jobs replies end.NoMemory same h sent = (inr (inl sent), nothing before after same)
stops_sending s number segment before after left frames rest state entries jobs replies (end.Endpoint p) same h sent =
    let seen = jobs_seen jobs replies in (
      part_of s segment before entries seen,
      next_of s segment before left state entries seen,
      runs_to s segment before left frames state entries seen h.read h.woven,
      subst (λ (x : List SentSeen). StopsAt s.endpoints x p (retired_for s segment before) after.outside.ends) (sends_are entries jobs replies h.replies_are) sent,
      nothing before after same,
    )
stops_sending s number segment before after left frames rest state entries jobs replies end.Whole same h sent = absurd sent
stops_sending s number segment before after left frames rest state entries jobs replies end.ReadFault same h sent = absurd sent
stops_sending s number segment before after left frames rest state entries jobs replies end.WriteFault same h sent = absurd sent
stops_sending s number segment before after left frames rest state entries jobs replies (end.Capture n reason) same h sent = absurd sent

-- all sends were made
pub record HasSent (s : Setting) (segment : Segment) (before after : RunState) (entries : List Entry)
    (replies : List Reply) (lost : List ℕ) : Type 0 where
  pub sent : SendsAll s.endpoints (sends_made entries replies) (Ok lost) (retired_for s segment before) after.outside.ends

sent_run : (s : Setting) (segment : Segment) (before after : RunState) (left frames : List (List ℕ)) (entries : List Entry) (jobs : List Job) (replies : List Reply) (lost : List ℕ)
    → HasAnswered s segment before left after.state entries jobs replies frames → HasSent s segment before after entries replies lost
    → RunsFrom s segment before left (part_of s segment before entries (jobs_seen jobs replies)) (standing after (drop (wanted_by segment.lines) left))
sent_run s segment before after left frames entries jobs replies lost h k =
    runs_one s segment before after left frames entries (jobs_seen jobs replies) h.read h.woven
    (k.sent.0 ∙ ap (λ (x : List SentSeen). all_received s.endpoints x (retired_for s segment before)) (sends_are entries jobs replies h.replies_are))

stops_lining : (s : Setting) (number : ℕ) (segment : Segment) (before after : RunState) (left frames : List (List ℕ)) (rest : Option (Result Next PcapFault)) (entries : List Entry)
    (jobs : List Job) (replies : List Reply) (lost : List ℕ) → SameSink before after → HasAnswered s segment before left after.state entries jobs replies frames
    → HasSent s segment before after entries replies lost → StopsOne s number segment before after left rest end.NoMemory
stops_lining s number segment before after left frames rest entries jobs replies lost same h k =
    (inr (inr (_, _, sent_run s segment before after left frames entries jobs replies lost h k, refl)), nothing before after same)

-- its lines were made
pub record HasLines (s : Setting) (number : ℕ) (segment : Segment) (before : RunState) (entries : List Entry)
    (jobs : List Job) (replies : List Reply) (lost : List ℕ) (retired lines : List (List ℕ)) : Type 0 where
  pub few : length s.endpoints ≤ MAX_ENDPOINTS
  pub retired_are : retired ≡ map ended (map retire_line (retirements s.endpoints segment.retires before.outside.ends))
  pub start : ℕ
  pub start_is : start ≡ before.state.place
  pub lines_are : lines ≡ retired ++ map ended (segment_line number start ∷ map entry_line entries ++ map job_line (jobs_seen jobs replies) ++ lost_lines (counts_to lost (length s.endpoints)))

made_text : (s : Setting) (number : ℕ) (segment : Segment) (before after : RunState) (entries : List Entry) (jobs : List Job) (replies : List Reply) (lost : List ℕ) (retired lines : List (List ℕ))
    → length replies ≡ length jobs → HasSent s segment before after entries replies lost → HasLines s number segment before entries jobs replies lost retired lines
    → joined lines ≡ segment_text number (part_of s segment before entries (jobs_seen jobs replies))
made_text s number segment before after entries jobs replies lost retired lines long k m =
    let seen = jobs_seen jobs replies in
    let counts : counts_to lost (length s.endpoints) ≡ lost_counts s.endpoints (retired_for s segment before) (sends_from entries seen) =
    lost_are s.endpoints (retired_for s segment before) (sends_made entries replies) lost m.few k.sent.1
    ∙ ap (λ (x : List SentSeen). lost_counts s.endpoints (retired_for s segment before) x) (sends_are entries jobs replies long) in
    text_is number (part_of s segment before entries seen) retired lines m.retired_are
    (m.lines_are ∙ (λ i. retired ++ map ended (segment_line number (m.start_is i) ∷ map entry_line entries ++ map job_line seen ++ lost_lines (counts i))))

stops_writing : (s : Setting) (number : ℕ) (segment : Segment) (before after : RunState) (left frames : List (List ℕ)) (rest : Option (Result Next PcapFault)) (entries : List Entry)
    (jobs : List Job) (replies : List Reply) (lost : List ℕ) (retired lines : List (List ℕ)) (n : ℕ) → HasAnswered s segment before left after.state entries jobs replies frames
    → HasSent s segment before after entries replies lost → HasLines s number segment before entries jobs replies lost retired lines → n < length (joined lines)
    → Appends before.outside.sink.told after.outside.sink.told (take n (joined lines)) → StopsOne s number segment before after left rest end.WriteFault
stops_writing s number segment before after left frames rest entries jobs replies lost retired lines n h k m short now =
    let text = made_text s number segment before after entries jobs replies lost retired lines h.replies_are k m in (
      _,
      _,
      sent_run s segment before after left frames entries jobs replies lost h k,
      refl,
      (n, subst (λ (x : List ℕ). n < length x) text short, subst (λ (x : List ℕ). Appends before.outside.sink.told after.outside.sink.told (take n x)) text now),
    )

-- what is left behind the records that it wants
is_left : (later left : List (List ℕ)) (wanted wanted' : ℕ) → later ≡ drop wanted left → wanted ≡ wanted' → later ≡ drop wanted' left
is_left later left wanted wanted' is sum = is ∙ ap (λ n. drop n left) sum

has_run_one : (s : Setting) (number : ℕ) (segment : Segment) (before after : RunState) (left later frames : List (List ℕ)) (rest : Option (Result Next PcapFault))
    (entries : List Entry) (jobs : List Job) (replies : List Reply) (lost : List ℕ) (retired lines : List (List ℕ)) (wanted : ℕ)
    → HasAnswered s segment before left after.state entries jobs replies frames → HasSent s segment before after entries replies lost
    → HasLines s number segment before entries jobs replies lost retired lines → Appends before.outside.sink.told after.outside.sink.told (joined lines)
    → wanted ≡ wanted_by segment.lines → GivesFrames wanted before.capture after.capture (Ok frames) left later rest → HasRunOne s number segment before after left later
has_run_one s number segment before after left later frames rest entries jobs replies lost retired lines wanted h k m now sum given = record {
  part = part_of s segment before entries (jobs_seen jobs replies);
  run = subst (λ (x : List (List ℕ)). RunsFrom s segment before left (part_of s segment before entries (jobs_seen jobs replies)) (standing after x))
      (sym (is_left later left wanted (wanted_by segment.lines) given.1 sum)) (sent_run s segment before after left frames entries jobs replies lost h k);
  text = subst (λ (x : List ℕ). Writes before.outside after.outside x) (made_text s number segment before after entries jobs replies lost retired lines h.replies_are k m) now;
  total = ap (λ (x : List (List ℕ)). given_by after.capture + length x) (is_left later left wanted (wanted_by segment.lines) given.1 sum)
      ∙ total_is (given_by before.capture) (given_by after.capture) frames left (wanted_by segment.lines) h.read given.2;
  going = λ g. let one = given.3 g in (one.0, given.2 ∙ ap (λ n. given_by before.capture + n) (one.1 ∙ sum));
}

-- it was told, and its entries counted
has_told : (s : Setting) (number : ℕ) (segment : Segment) (before after : RunState) (left later frames : List (List ℕ)) (rest : Option (Result Next PcapFault)) (entries : List Entry)
    (jobs : List Job) (replies : List Reply) (lost : List ℕ) (retired lines : List (List ℕ)) (wanted : ℕ) → HasAnswered s segment before left after.state entries jobs replies frames
    → HasSent s segment before after entries replies lost → HasLines s number segment before entries jobs replies lost retired lines
    → Appends before.outside.sink.told after.outside.sink.told (joined lines) → wanted ≡ wanted_by segment.lines → GivesFrames wanted before.capture after.capture (Ok frames) left later rest
    → (tally tally' : Option Counts) → TalliesOn tally tally' (counts_in entries) → HasTold s number segment before after tally tally' left later
unfolding has_run_one
has_told s number segment before after left later frames rest entries jobs replies lost retired lines wanted h k m now sum given tally tally' counted = record {
  one = has_run_one s number segment before after left later frames rest entries jobs replies lost retired lines wanted h k m now sum given;
  counted = counted;
}

-- telling it stopped
stops_telling : (s : Setting) (number : ℕ) (segment : Segment) (before after : RunState) (left frames : List (List ℕ)) (rest : Option (Result Next PcapFault)) (entries : List Entry)
    (jobs : List Job) (replies : List Reply) (lost : List ℕ) (retired lines : List (List ℕ)) (stop : RunEnd) → HasAnswered s segment before left after.state entries jobs replies frames
    → HasSent s segment before after entries replies lost → HasLines s number segment before entries jobs replies lost retired lines
    → Tells before.outside.sink after.outside.sink (joined lines) (Err stop) → StopsOne s number segment before after left rest stop
stops_telling s number segment before after left frames rest entries jobs replies lost retired lines end.WriteFault h k m t =
    stops_writing s number segment before after left frames rest entries jobs replies lost retired lines t.0 h k m t.1 t.2
stops_telling s number segment before after left frames rest entries jobs replies lost retired lines end.NoMemory h k m t =
    stops_lining s number segment before after left frames rest entries jobs replies lost t h k
stops_telling s number segment before after left frames rest entries jobs replies lost retired lines end.Whole h k m t = absurd t
stops_telling s number segment before after left frames rest entries jobs replies lost retired lines end.ReadFault h k m t = absurd t
stops_telling s number segment before after left frames rest entries jobs replies lost retired lines (end.Endpoint p) h k m t = absurd t
stops_telling s number segment before after left frames rest entries jobs replies lost retired lines (end.Capture n reason) h k m t = absurd t

-- what a segment comes to, and what it takes
abbrev pub OneRead : Setting → ℕ → Segment → RunState → RunState → Option Counts → Option Counts → Result (Unit {0}) RunEnd → Type 0
OneRead s number segment before after tally tally' result =
    Reads before.capture before.outside.source after.capture after.outside.source result (λ left next rest. OneBy s number segment before after tally tally' result left next rest
    × TakesFrames (wanted_by segment.lines) before.capture after.capture before.outside.source after.outside.source result left)

-- its records were read, and then it stopped
pub stops_behind : (s : Setting) (number : ℕ) (segment : Segment) (before after : RunState) (tally tally' : Option Counts) (frames : List (List ℕ)) (wanted : ℕ) (stop : RunEnd)
    → wanted ≡ wanted_by segment.lines → ReadsFrames wanted before.capture before.outside.source after.capture after.outside.source (Ok frames)
    → ((left : List (List ℕ)) (rest : Option (Result Next PcapFault)) → frames ≡ take (wanted_by segment.lines) left → StopsOne s number segment before after left rest stop)
    → OneRead s number segment before after tally tally' (Err stop)
stops_behind s number segment before after tally tally' frames wanted stop sum read f =
    let some = some_left after.capture after.outside.source in
    let given = read some.0 some.1 some.2 in (
      given.0,
      some.1,
      given.1,
      (
        f given.0 some.1 (given.2.0.0 ∙ ap (λ n. take n given.0) sum),
        takes_before before.capture after.capture before.outside.source after.outside.source given.0 wanted (wanted_by segment.lines) sum given.2.1,
      ),
    )

-- it stopped before its records were read
pub stops_before : (s : Setting) (number : ℕ) (segment : Segment) (before after : RunState) (tally tally' : Option Counts) (stop : RunEnd) → after.outside.source ≡ before.outside.source
    → ((left : List (List ℕ)) (rest : Option (Result Next PcapFault)) → StopsOne s number segment before after left rest stop) → OneRead s number segment before after tally tally' (Err stop)
stops_before s number segment before after tally tally' stop same f =
    let some = some_left before.capture before.outside.source in (
      some.0,
      some.1,
      some.2,
      (
        f some.0 some.1,
        λ le. subst (λ (x : SourceSeen). IsTakenPast (room_of before.capture) before.outside.source x (take (wanted_by segment.lines) some.0))
            (sym same) (past_none (room_of before.capture) before.outside.source (take (wanted_by segment.lines) some.0)),
      ),
    )

-- it stopped while they were read
pub stops_within : (s : Setting) (number : ℕ) (segment : Segment) (before after : RunState) (tally tally' : Option Counts) (wanted : ℕ) (stop : RunEnd)
    → SameSink before after → after.outside.ends ≡ retired_for s segment before → wanted ≡ wanted_by segment.lines
    → ReadsFrames wanted before.capture before.outside.source after.capture after.outside.source (Err stop) → OneRead s number segment before after tally tally' (Err stop)
stops_within s number segment before after tally tally' wanted stop same ends sum h = (
  h.0,
  h.1,
  h.2,
  (
    stops_reading_in s number segment before after h.0 h.1 wanted after.capture stop same ends sum h.3.0,
    takes_reading before.capture before.outside.source after.outside.source h.0 wanted (wanted_by segment.lines) sum h.3.1,
  ),
)

-- it was told, or telling it stopped
pub one_told : (s : Setting) (number : ℕ) (segment : Segment) (before after : RunState) (frames : List (List ℕ)) (entries : List Entry) (jobs : List Job) (replies : List Reply) (lost : List ℕ)
    (retired lines : List (List ℕ)) (wanted : ℕ) → ((left : List (List ℕ)) → frames ≡ take (wanted_by segment.lines) left → HasAnswered s segment before left after.state entries jobs replies frames)
    → HasSent s segment before after entries replies lost → HasLines s number segment before entries jobs replies lost retired lines → wanted ≡ wanted_by segment.lines
    → ReadsFrames wanted before.capture before.outside.source after.capture after.outside.source (Ok frames) → (tally tally' : Option Counts) (result : Result (Unit {0}) RunEnd)
    → Tells before.outside.sink after.outside.sink (joined lines) result → OnOk result (TalliesOn tally tally' (counts_in entries)) → OneRead s number segment before after tally tally' result
one_told s number segment before after frames entries jobs replies lost retired lines wanted answered k m sum read tally tally' (Ok done) t counted = λ later rest r.
    let given = read later rest r in
    let h = answered given.0 (given.2.0.0 ∙ ap (λ n. take n given.0) sum) in (
      given.0,
      given.1,
      (
        has_told s number segment before after given.0 later frames rest entries jobs replies lost retired lines wanted h k m t sum given.2.0 tally tally' counted,
        takes_told before.capture after.capture before.outside.source after.outside.source given.0 wanted (wanted_by segment.lines) (Ok done) sum given.2.1,
      ),
    )
one_told s number segment before after frames entries jobs replies lost retired lines wanted answered k m sum read tally tally' (Err stop) t counted =
    stops_behind s number segment before after tally tally' frames wanted stop sum read
    (λ left rest front. stops_telling s number segment before after left frames rest entries jobs replies lost retired lines stop (answered left front) k m t)

-- the same sends, as slices have them
pub sends_as : (names : List (List ℕ)) (sends sends' : List SentSeen) (ends ends' after : List NamedEnd) (result : Result (List ℕ) RunEnd)
    → sends ≡ sends' → ends ≡ ends' → SendsAll names sends result ends after → SendsAll names sends' result ends' after
sends_as names sends sends' ends ends' after result a e h =
    subst (λ (x : List NamedEnd). SendsAll names sends' result x after) e
    (subst (λ (x : List SentSeen). SendsAll names x result ends after) a h)

-- those of the marks of entries, and of replies
pub marks_sent : (trails trails' : List Trail) (marks marks' : List EntryIndex) (entries : List Entry) (rs rs' : List Reply) → trails ≡ trails' → marks ≡ marks' → rs ≡ rs'
    → AreMarksOf trails' marks' entries → flat_map (sends_in trails) marks ++ flat_map sends_of_reply rs ≡ sends_made entries rs'
marks_sent trails trails' marks marks' entries rs rs' a b r are =
    (λ i. flat_map (sends_in (a i)) (b i) ++ flat_map sends_of_reply (r i)) ∙ ap (λ x. x ++ flat_map sends_of_reply rs') (sends_told trails' marks' entries are)
