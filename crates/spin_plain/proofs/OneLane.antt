-- With one lane a run is the plain dispatcher's.
use Rattle.std.proofs.Common.{◌≡◌, ℕ, ◌<◌, true, false, List, [], ◌∷◌, ◌++◌, length, map, refl, sym, ap, subst, ◌∙◌, arith}
use Rattle.std.specs.Prelude.{◌==◌, All}
use Rattle.std.specs.Option.{option_map}
use Rattle.std.specs.List.{flat_map}
use Rattle.std.proofs.Math.Seq.{take-append_seam, drop-append_seam}
use Rattle.std.proofs.lemmas.Bool.{eq-eqb}
use Rattle.std.proofs.lemmas.List.Elements.{All-take, All-drop, All-weaker}
use Rattle.std.proofs.lemmas.List.Folds.{map_fixed}
use Rattle.spin_word.specs.declared.work.Work.{Work}
use Rattle.spin_table.specs.declared.refusal.Refusal.{Refusal}
use Rattle.spin_table.specs.declared.refusal.Refusal.TheVariants as refusal
use Rattle.spin_table.specs.declared.refusal.Verdicted.TheVariants as verdicted
use Rattle.spin_table.specs.Setups.{SetupData}
use Rattle.spin_table.specs.States.{State}
use Rattle.spin_table.specs.Laws.{cause_of}
use Rattle.spin_endpoint.specs.Sends.{SentSeen, all_received, all_retired}
use Rattle.spin_script.specs.declared.script.Line.{Line}
use Rattle.spin_script.specs.declared.script.Segment.{Segment}
use Rattle.spin_script.specs.States.{ScriptData}
use Rattle.spin_script.specs.Soundness.{lines_in}
use Rattle.spin_script.specs.Segments.{IsOnLane}
use Rattle.spin_script.proofs.LaneLines.{script_orderly}
use Rattle.spin_report.specs.declared.entry.What.{What}
use Rattle.spin_report.specs.declared.entry.What.TheVariants as what
use Rattle.spin_report.specs.declared.entry.Entry.{Entry}
use Rattle.spin_report.specs.Lines.{JobSeen}
use Rattle.spin_report.specs.Histories.{SegmentSeen, report_text}
use Rattle.spin_report.specs.Legal.{IsLegal}
use Rattle.spin_report.specs.Jobs.{answer_calls, AreJobsFrom, AreJobs}
use Rattle.spin_report.specs.Asked.{Numbered, asked_of}
use Rattle.spin_report.specs.Segments.{asked_in, of_lane, asked_of_lane}
use Rattle.spin_report.specs.Runs.{RunPoint, sends_of, sends_of_reply, segment_sends, lost_counts, IsSegmentRun, AreRun, counts_of, frames_of, start_with}
use Rattle.spin_report.proofs.LaneAnswers.{filter_asked}
use Rattle.spin_report.proofs.Asking.{asked_all}
use Rattle.spin_plain.specs.Plain.{next_state, entry_for, jobs_for, entries_from, jobs_from, state_from, plain_answers, plain_segment, plain_after, plain_segments, plain_end}
use Rattle.spin_plain.specs.Laws.{is_conflict, met_conflict, what_without, entry_without, segment_without, without_cycles, OneLaneIsPlain, OneLaneOneText}
use Rattle.spin_plain.proofs.Turns.{keep_all}
use Rattle.spin_plain.proofs.RisingNumbers.{IsRising, start_rises}
use Rattle.spin_plain.proofs.OneAnswer.{one_entry, one_entry_jobs}

-- ---- one deed after another

-- legal entries with their jobs are what the plain dispatcher gives for what they answer
record ArePlain (d : SetupData) (s : State) (entries : List Entry) (jobs : List JobSeen) (last : State) : Type 0 where
  entries_are : map entry_without entries ≡ entries_from d s (map asked_of entries)
  jobs_are : jobs ≡ jobs_from d s (map asked_of entries)
  last_is : last ≡ state_from d s (map asked_of entries)
  rising : IsRising last

all_entries : (d : SetupData) (s : State) (entries : List Entry) (jobs : List JobSeen) (last : State) → IsRising s → IsLegal d s entries last → AreJobs d s entries jobs
    → ArePlain d s entries jobs last
all_entries d s [] jobs last rising legal are =
    record { entries_are = refl; jobs_are = are; last_is = legal; rising = subst IsRising (sym legal) rising }
all_entries d s (entry ∷ entries) jobs last rising (next, is, legal) (other, own, others, also, own_are, others_are, all) =
    let one = one_entry d s entry next rising is in
    let two = one_entry d s entry other rising also in
    let then = next_state d s (asked_of entry) in
    let here : own ≡ jobs_for d then (entry_for d s (asked_of entry)) =
    one_entry_jobs d then entry own one.rising (subst (λ x. AreJobsFrom d x entry 0 (answer_calls entry.what) own) two.next_is own_are)
    ∙ ap (jobs_for d then) one.entry_is in
    let rest = all_entries d then entries others last one.rising (subst (λ x. IsLegal d x entries last) one.next_is legal)
    (subst (λ x. AreJobs d x entries others) two.next_is others_are) in
    record {
      entries_are = λ i. one.entry_is i ∷ rest.entries_are i;
      jobs_are = all ∙ (λ i. here i ++ rest.jobs_are i);
      last_is = rest.last_is;
      rising = rest.rising;
    }

-- ---- one lane

is_first_lane : (lane : ℕ) → lane < 1 → (lane == 0) ≡ true
is_first_lane lane below = eq-eqb lane 0 (omega arith)

pub all_of_lane : (entries : List Entry) → All (λ entry. entry.lane < 1) entries → of_lane 0 entries ≡ entries
all_of_lane entries below =
    keep_all (λ (entry : Entry). entry.lane == 0) entries
    (All-weaker (λ (entry : Entry). entry.lane < 1) (λ (entry : Entry). (entry.lane == 0) ≡ true) (λ entry lt. is_first_lane entry.lane lt) entries below)

pub all_asked_of_lane : (asked : List Numbered) → All (λ n. n.lane < 1) asked → asked_of_lane 0 asked ≡ asked
all_asked_of_lane asked below =
    keep_all (λ (n : Numbered). n.lane == 0) asked
    (All-weaker (λ (n : Numbered). n.lane < 1) (λ (n : Numbered). (n.lane == 0) ≡ true) (λ n lt. is_first_lane n.lane lt) asked below)

-- ---- sends

same_sends : (w : What) → sends_of w ≡ sends_of (what_without w)
same_sends (what.Command c v) = refl
same_sends (what.Deed asked reply) = refl

entry_sends : (entries : List Entry) → flat_map (λ (entry : Entry). sends_of entry.what) entries ≡ flat_map (λ (entry : Entry). sends_of entry.what) (map entry_without entries)
entry_sends [] = refl
entry_sends (entry ∷ entries) =
    let one = same_sends entry.what in
    let rest = entry_sends entries in
    λ i. one i ++ rest i

-- ---- one segment after another

-- the line is of the one lane
abbrev pub IsOfOne : Line → Type 0
IsOfOne line = line.lane < 1

module _ (script : ScriptData) (lanes : script.lanes ≡ 1) where
  -- a segment that is run is the plain dispatcher's, but for its cycles
  record IsPlainSegment (segment : Segment) (before : RunPoint) (seen : SegmentSeen) (after : RunPoint) : Type 0 where
    seen_is : segment_without seen ≡ plain_segment script segment before
    after_is : after ≡ plain_after script segment before
    rising : IsRising after.state

  module _ (segment : Segment) (before : RunPoint) (seen : SegmentSeen) (after : RunPoint) (lines : All IsOfOne segment.lines) (from : IsRising before.state)
      (run : IsSegmentRun script.setup script.lanes script.endpoints segment before seen after) where
    answers : ArePlain script.setup before.state seen.entries seen.jobs after.state
    answers = all_entries script.setup before.state seen.entries seen.jobs after.state from run.woven.legal run.woven.jobs_are

    -- the one lane's entries are all, in the order of the text
    in_text_order : map asked_of seen.entries ≡ asked_in segment.lines before.left
    in_text_order =
        let of_one = subst (λ k. All (λ (entry : Entry). entry.lane < k) seen.entries) lanes run.woven.lanes_are in
        let asked = asked_all (λ n. n.lane < 1) segment.lines before.left
        (All-weaker IsOfOne (λ line. (part : ℕ × Work) → line.lane < 1) (λ line below part. below) segment.lines lines) in
        sym (ap (map asked_of) (all_of_lane seen.entries of_one)) ∙ sym (filter_asked 0 seen.entries) ∙ run.woven.once 0 (omega (arith, lanes)) ∙ all_asked_of_lane (asked_in segment.lines before.left) asked

    entries : map entry_without seen.entries ≡ entries_from script.setup before.state (asked_in segment.lines before.left)
    entries = answers.entries_are ∙ ap (entries_from script.setup before.state) in_text_order

    jobs : seen.jobs ≡ jobs_from script.setup before.state (asked_in segment.lines before.left)
    jobs = answers.jobs_are ∙ ap (jobs_from script.setup before.state) in_text_order

    sends : segment_sends seen ≡ segment_sends (plain_answers script segment before)
    sends =
        let of_entries = entry_sends seen.entries ∙ ap (flat_map (λ (entry : Entry). sends_of entry.what)) entries in
        λ i. of_entries i ++ flat_map (λ (job : JobSeen). sends_of_reply job.reply) (jobs i)

    one_segment : IsPlainSegment segment before seen after
    one_segment =
        let standing = all_retired script.endpoints segment.retires before.ends in
        let lost = run.lost ∙ ap (lost_counts script.endpoints standing) sends in
        let state = answers.last_is ∙ ap (state_from script.setup before.state) in_text_order in
        let ends = run.ends ∙ ap (λ (sent : List SentSeen). all_received script.endpoints sent standing) sends in
        record {
          seen_is = λ i. record { retired = run.retired i; start = run.start i; entries = entries i; jobs = jobs i; lost = lost i };
          after_is = λ i. record { state = state i; left = run.left i; ends = ends i };
          rising = answers.rising;
        }

  all_segments : (segments : List Segment) (before : RunPoint) (seen : List SegmentSeen) (after : RunPoint) → All IsOfOne (lines_in segments) → IsRising before.state
      → AreRun script segments before seen after → (map segment_without seen ≡ plain_segments script segments before) × (after ≡ plain_end script segments before)
  all_segments [] before seen after lines from run = (ap (map segment_without) run.0, run.1)
  all_segments (segment ∷ segments) before seen after lines from (first, others, next, is, run, rest) =
      let later = lines_in segments in
      let first_lines : All IsOfOne segment.lines =
      subst (All IsOfOne) (take-append_seam segment.lines later) (All-take IsOfOne (length segment.lines) (segment.lines ++ later) lines) in
      let other_lines : All IsOfOne later =
      subst (All IsOfOne) (drop-append_seam segment.lines later) (All-drop IsOfOne (length segment.lines) (segment.lines ++ later) lines) in
      let one = one_segment segment before first next first_lines from run in
      let more = all_segments segments (plain_after script segment before) others after other_lines (subst (λ (x : RunPoint). IsRising x.state) one.after_is one.rising)
      (subst (λ (x : RunPoint). AreRun script segments x others after) one.after_is rest) in
      (ap (map segment_without) is ∙ (λ i. one.seen_is i ∷ more.0 i), more.1)

-- ---- the whole

pub one_lane : OneLaneIsPlain
one_lane n text script capture ends history last is lanes run =
    let orderly = script_orderly n text script is in
    let lines = All-weaker (IsOnLane script.lanes) IsOfOne (λ line on. omega (arith, lanes, on.below)) (lines_in script.segments) orderly.lanes.each in
    let start = start_with script (frames_of capture) ends in
    let all = all_segments script lanes script.segments start history.segments last lines (start_rises script.setup) run.segments in
    let end = run.end ∙ ap (λ (x : RunPoint). x.state.place) all.1 in
    let counts = run.capture_is ∙ ap (λ (x : RunPoint). option_map (counts_of x.left) capture) all.1 in
    (λ i. record { segments = all.0 i; end = end i; capture = counts i }, all.1)

-- ---- the text

same_cause : (r : Refusal) → is_conflict (verdicted.Refused r) ≡ false → cause_of r ≡ r
same_cause (refusal.Conflict cycle) none = absurd (cc (none))
same_cause refusal.UnknownEvent none = refl
same_cause refusal.UnknownModule none = refl
same_cause refusal.UnknownHandler none = refl
same_cause refusal.UnknownGuard none = refl
same_cause refusal.UnknownBinding none = refl
same_cause refusal.WrongType none = refl
same_cause refusal.Downward none = refl
same_cause refusal.WrongMode none = refl
same_cause (refusal.Denied rule) none = refl
same_cause refusal.TooMany none = refl
same_cause (refusal.ForcedMode rule) none = refl

same_what : (w : What) → met_conflict w ≡ false → what_without w ≡ w
same_what (what.Command c verdicted.Accepted) none = refl
same_what (what.Command c (verdicted.Refused r)) none = ap (λ (x : Refusal). what.Command c (verdicted.Refused x)) (same_cause r none)
same_what (what.Deed asked reply) none = refl

-- the entry met no conflict
abbrev pub MetNone : Entry → Type 0
MetNone entry = met_conflict entry.what ≡ false

same_entries : (entries : List Entry) → All MetNone entries → map entry_without entries ≡ entries
same_entries entries none =
    map_fixed entry_without entries (All-weaker MetNone (λ entry. entry_without entry ≡ entry)
    (λ entry here. let same = same_what entry.what here in λ i. record { place = entry.place; lane = entry.lane; line = entry.line; part = entry.part; what = same i }) entries none)

same_segments : (segments : List SegmentSeen) → All MetNone (flat_map (λ s. s.entries) segments) → map segment_without segments ≡ segments
same_segments [] none = refl
same_segments (segment ∷ segments) none =
    let later = flat_map (λ (s : SegmentSeen). s.entries) segments in
    let here : All MetNone segment.entries =
    subst (All MetNone) (take-append_seam segment.entries later) (All-take MetNone (length segment.entries) (segment.entries ++ later) none) in
    let others : All MetNone later =
    subst (All MetNone) (drop-append_seam segment.entries later) (All-drop MetNone (length segment.entries) (segment.entries ++ later) none) in
    let entries = same_entries segment.entries here in
    let rest = same_segments segments others in
    λ i. record { retired = segment.retired; start = segment.start; entries = entries i; jobs = segment.jobs; lost = segment.lost } ∷ rest i

pub one_text : OneLaneOneText
one_text n text script capture ends history last is lanes none run =
    let segments = same_segments history.segments none in
    let same : without_cycles history ≡ history = λ i. record { segments = segments i; end = history.end; capture = history.capture } in
    ap report_text (sym same ∙ (one_lane n text script capture ends history last is lanes run).0)
