-- The report of a run of a script tells its history.
use Rattle.std.proofs.Common.{◌≡◌, ◌<◌, ◌≤◌, ◌^◌, ℕ, List, [], ◌∷◌, ◌++◌, map, length, drop, get_or, refl, sym, ap, subst, arith, ◌∙◌}
use Rattle.std.specs.Prelude.{Option, Ok, All, Contains, IsPermutation}
use Rattle.std.specs.List.{flat_map}
use Rattle.std.proofs.Math.Seq.{take-append_seam, drop-append_seam}
use Rattle.std.proofs.lemmas.List.{length-map, map-append}
use Rattle.std.proofs.lemmas.List.Elements.{All-take, All-drop, All-weaker, All-contains}
use Rattle.std.proofs.lemmas.List.Sorted.{IsPermutation-refl, IsPermutation-append, length_permutation}
use Rattle.spin_word.specs.declared.work.Work.{Work}
use Rattle.spin_table.specs.Setups.{SetupData}
use Rattle.spin_table.specs.States.{State, start_of}
use Rattle.spin_endpoint.specs.Named.{NamedEnd}
use Rattle.spin_script.specs.declared.script.Line.{Line}
use Rattle.spin_script.specs.declared.script.Segment.{Segment}
use Rattle.spin_script.specs.States.{NativeData, ScriptData}
use Rattle.spin_script.specs.Language.{IsScript}
use Rattle.spin_script.specs.Soundness.{lines_in}
use Rattle.spin_script.specs.Checks.{most_deeds}
use Rattle.spin_script.specs.Laws.{bare_script}
use Rattle.spin_script.specs.Segments.{NumbersRise, IsOnLane, HasLanes, deeds_in, IsOrderly}
use Rattle.spin_script.proofs.LaneLines.{script_orderly, script_numbers}
use Rattle.spin_script.proofs.OutcomeUniqueness.{one_outcome}
use Rattle.spin_report.specs.declared.entry.Entry.{Entry}
use Rattle.spin_report.specs.Histories.{SegmentSeen, HistorySeen, report_text, entries_of}
use Rattle.spin_report.specs.Legal.{IsLegal}
use Rattle.spin_report.specs.Asked.{Numbered, asked_of, AreApart, IsHistory}
use Rattle.spin_report.specs.Segments.{asked_in, wanted_by}
use Rattle.spin_report.specs.Runs.{RunPoint, CaptureSeen, frames_of, start_with, AreRun, IsRun}
use Rattle.spin_report.specs.Laws.{cycle_told, HasNumbers, segment_entries, OneHistoryAs, OneRunAs, IsAccepted, OneHistory, OneRun}
use Rattle.spin_report.proofs.Asking.{asked_all, asked_rises, rising_apart, asked_few, asked_parts, asked_behind}
use Rattle.spin_report.proofs.LaneAnswers.{answered_by_lanes, filter_asked}
use Rattle.spin_report.proofs.Cycles.{IsUnder, started_under}
use Rattle.spin_report.proofs.HistoryUniqueness.{all_asked, law}
use Rattle.spin_report.proofs.Following.{same_jobs, same_run}
use Rattle.spin_report.proofs.BareRuns.{bare_run}

-- ---- all segments are one list of entries

abbrev entries_in : List SegmentSeen → List Entry
entries_in seen = flat_map (λ s. s.entries) seen

legal_behind : (d : SetupData) (xs ys : List Entry) (s t u : State) → IsLegal d s xs t → IsLegal d t ys u → IsLegal d s (xs ++ ys) u
legal_behind d [] ys s t u first others = subst (λ (x : State). IsLegal d x ys u) first others
legal_behind d (x ∷ xs) ys s t u (next, is, rest) others = (next, is, legal_behind d xs ys next t u rest others)

-- the line is of one of so many lanes
abbrev IsBelow : ℕ → Line → Type 0
IsBelow lanes line = line.lane < lanes

-- a run of segments is legal, and answers once each what all their lines ask
abbrev AnswersAll : ScriptData → List Segment → RunPoint → List SegmentSeen → RunPoint → Type 0
AnswersAll script segments before seen after =
    IsLegal script.setup before.state (entries_in seen) after.state × IsPermutation (map asked_of (entries_in seen)) (asked_in (lines_in segments) before.left)

run_answers : (script : ScriptData) (segments : List Segment) (before after : RunPoint) (seen : List SegmentSeen) → All (IsBelow script.lanes) (lines_in segments)
    → AreRun script segments before seen after → AnswersAll script segments before seen after
run_answers script [] before after seen lanes run =
    subst (λ (x : List SegmentSeen × RunPoint). AnswersAll script [] before x.0 x.1) (λ i. (sym run.0 i, sym run.1 i)) (refl, IsPermutation-refl [])
run_answers script (segment ∷ segments) before after seen lanes (first, others, next, is, run, rest) =
    let lines = lines_in segments in
    let first_lanes : All (IsBelow script.lanes) segment.lines =
    subst (All (IsBelow script.lanes)) (take-append_seam segment.lines lines) (All-take (IsBelow script.lanes) (length segment.lines) (segment.lines ++ lines) lanes) in
    let other_lanes : All (IsBelow script.lanes) lines =
    subst (All (IsBelow script.lanes)) (drop-append_seam segment.lines lines) (All-drop (IsBelow script.lanes) (length segment.lines) (segment.lines ++ lines) lanes) in
    let asked = asked_in segment.lines before.left in
    let of_lanes : All (λ n. n.lane < script.lanes) asked =
    asked_all (λ n. n.lane < script.lanes) segment.lines before.left
    (All-weaker (IsBelow script.lanes) (λ line. (part : ℕ × Work) → line.lane < script.lanes) (λ line below part. below) segment.lines first_lanes) in
    let here : IsPermutation (map asked_of first.entries) asked = answered_by_lanes script.lanes asked first.entries of_lanes run.woven.lanes_are
    (λ k lt. sym (filter_asked k first.entries) ∙ run.woven.once k lt) in
    let more = run_answers script segments next after others other_lanes rest in
    let behind : IsPermutation (map asked_of (entries_in others)) (asked_in lines (drop (wanted_by segment.lines) before.left)) =
    subst (λ (left : List (List ℕ)). IsPermutation (map asked_of (entries_in others)) (asked_in lines left)) run.left more.1 in
    let both = IsPermutation-append (map asked_of first.entries) asked (map asked_of (entries_in others)) (asked_in lines (drop (wanted_by segment.lines) before.left)) here behind in
    subst (λ (x : List SegmentSeen). AnswersAll script (segment ∷ segments) before x after) (sym is) (
      legal_behind script.setup first.entries (entries_in others) before.state next.state after.state run.woven.legal more.0,
      subst (λ (x : List Numbered × List Numbered). IsPermutation x.0 x.1)
          (λ i. (sym (map-append asked_of first.entries (entries_in others)) i, sym (asked_behind segment.lines lines before.left) i)) both,
    )

-- ---- numbers

-- what is asked has numbers that a script can give it
abbrev IsSmall : Numbered → Type 0
IsSmall n = (n.lane ≤ 8) × (n.line ≤ 1048577) × (n.part ≤ 65536)

has_numbers : (asked : List Numbered) (entries : List Entry) → length entries ≤ 65536 → All IsSmall asked
    → All (λ (e : Entry). Contains asked (asked_of e)) entries → All (IsUnder (length entries)) entries → All HasNumbers entries
has_numbers asked entries few small among under = λ j d lt.
    let e = get_or entries j d in
    let numbers = All-contains IsSmall asked (asked_of e) small (among j d lt) in
    let low = under j d lt in
    record {
      place = let p = low.0 in omega arith;
      lane = let l = numbers.0 in omega arith;
      line = let l = numbers.1 in omega arith;
      part = let p = numbers.2 in omega arith;
      cycle = All-weaker (λ (n : ℕ). n ≤ length entries) (λ (n : ℕ). n < 2 ^ 64) (λ n le. omega arith) (cycle_told e.what) low.1;
    }

-- ---- whole runs

-- what holds of the lane lines of a script, wherever its boxes lie
pub record HasLaneLines (lanes : ℕ) (segments : List Segment) : Type 0 where
  pub orderly : NumbersRise segments
  pub on_lanes : HasLanes lanes segments
  pub deeds : deeds_in segments ≤ most_deeds
  pub low : All (λ (x : Line). x.number ≤ 1048577) (lines_in segments)

pub has_lane_lines : (n : NativeData) (text : List ℕ) (script : ScriptData) → IsScript n text (Ok script) → HasLaneLines script.lanes script.segments
has_lane_lines n text script is =
    let so : IsOrderly script = script_orderly n text script is in
    record { orderly = so.numbers; on_lanes = so.lanes; deeds = so.deeds; low = script_numbers n text script is }

module _ (script : ScriptData) (capture : Option CaptureSeen) (has : HasLaneLines script.lanes script.segments) where
  abbrev lines : List Line
  lines = lines_in script.segments

  abbrev asked : List Numbered
  asked = asked_in lines (frames_of capture)

  apart : AreApart asked
  apart = rising_apart asked (asked_rises lines (frames_of capture) has.orderly)

  lanes : All (IsBelow script.lanes) lines
  lanes = All-weaker (IsOnLane script.lanes) (IsBelow script.lanes) (λ line on. on.below) lines has.on_lanes.each

  small : All IsSmall asked
  small = λ j d lt.
      let lane = asked_all (λ m. m.lane < script.lanes) lines (frames_of capture)
      (All-weaker (IsBelow script.lanes) (λ line. (part : ℕ × Work) → line.lane < script.lanes) (λ line below part. below) lines lanes) j d lt in
      let line = asked_all (λ m. m.line ≤ 1048577) lines (frames_of capture)
      (All-weaker (λ (x : Line). x.number ≤ 1048577) (λ x. (part : ℕ × Work) → x.number ≤ 1048577) (λ x low part. low) lines has.low) j d lt in
      let part = asked_parts 65536 lines (frames_of capture) has.deeds j d lt in
      let most = has.on_lanes.few in
      (omega arith, line, part)

  module _ (ends : List NamedEnd) (h : HistorySeen) (last : RunPoint) (run : IsRun script capture ends h last) where
    history : IsHistory script.setup (start_of script.setup) asked (entries_of h)
    history =
        let answers = run_answers script script.segments (start_with script (frames_of capture) ends) last h.segments lanes run.segments in
        record { last = last.state; legal = answers.0; once = answers.1 }

    count : length (entries_of h) ≤ 65536
    count =
        let few = asked_few lines (frames_of capture) in
        let deeds = has.deeds in
        let same = length_permutation (map asked_of (entries_of h)) asked history.once in
        omega (arith, length-map (entries_of h) asked_of)

    numbers : All HasNumbers (entries_of h)
    numbers = has_numbers asked (entries_of h) count small (all_asked asked (entries_of h) history.once) (started_under script.setup (entries_of h) history.last history.legal)

  same_rows : (ends ends' : List NamedEnd) (h k : HistorySeen) (last last' : RunPoint) → IsRun script capture ends h last
      → IsRun script capture ends' k last' → report_text h ≡ report_text k → segment_entries h ≡ segment_entries k
  same_rows ends ends' h k last last' run run' same =
      law script.setup (start_of script.setup) asked h k apart (history ends h last run) (history ends' k last' run') (numbers ends h last run) (numbers ends' k last' run') same

-- ---- two readings of one text

-- two scripts that are one but for where their boxes lie
module _ (script other : ScriptData) (has : HasLaneLines script.lanes script.segments) (alike : bare_script script ≡ bare_script other) (capture : Option CaptureSeen) where
  abbrev bare : ScriptData
  bare = bare_script script

  -- runs of both are runs of one script
  other_run : (ends : List NamedEnd) (k : HistorySeen) (last : RunPoint) → IsRun other capture ends k last → IsRun bare capture ends k last
  other_run ends k last run = subst (λ (x : ScriptData). IsRun x capture ends k last) (sym alike) (bare_run other capture ends k last run)

  bare_rows : (ends ends' : List NamedEnd) (h k : HistorySeen) (last last' : RunPoint) → IsRun script capture ends h last
      → IsRun other capture ends' k last' → report_text h ≡ report_text k → segment_entries h ≡ segment_entries k
  bare_rows ends ends' h k last last' run run' same =
      same_rows bare capture has ends ends' h k last last' (bare_run script capture ends h last run) (other_run ends' k last' run') same

-- so the readings of a text are
abbrev pub ReadAlike : (NativeData → List ℕ → ScriptData → Type 0) → Type 0
ReadAlike IsReadAs =
    (n : NativeData) (text : List ℕ) (script other : ScriptData) → IsReadAs n text script → IsReadAs n text other
    → HasLaneLines script.lanes script.segments × (bare_script script ≡ bare_script other)

-- two runs of a text over one capture, whose reports are one text, have the same entries and jobs
pub history_as : (IsReadAs : NativeData → List ℕ → ScriptData → Type 0) → ReadAlike IsReadAs → OneHistoryAs IsReadAs
history_as IsReadAs read n text script other capture ends ends' h k last last' is is' run run' same =
    let so = read n text script other is is' in
    let rows = bare_rows script other so.0 so.1 capture ends ends' h k last last' run run' same in (
      rows,
      same_jobs (bare_script script) script.segments (start_with (bare_script script) (frames_of capture) ends) (start_with (bare_script script) (frames_of capture) ends')
          last last' h.segments k.segments refl rows
          (bare_run script capture ends h last run).segments (other_run script other so.0 so.1 capture ends' k last' run').segments,
    )

-- and over the same endpoints they are one
pub run_as : (IsReadAs : NativeData → List ℕ → ScriptData → Type 0) → ReadAlike IsReadAs → OneRunAs IsReadAs
run_as IsReadAs read n text script other capture ends h k last last' is is' run run' same =
    let so = read n text script other is is' in
    let rows = bare_rows script other so.0 so.1 capture ends ends h k last last' run run' same in
    let one = same_run (bare_script script) capture ends h k last last'
    (bare_run script capture ends h last run) (other_run script other so.0 so.1 capture ends k last' run') rows in (
      one.0,
      ap (λ (x : RunPoint). x.left) one.1,
      ap (λ (x : RunPoint). x.ends) one.1,
      λ readings. (same_run script capture ends h k last last' run (subst (λ (x : ScriptData). IsRun x capture ends k last') (sym readings) run') rows).1,
    )

accepted_alike : ReadAlike IsAccepted
accepted_alike n text script other is is' = (has_lane_lines n text script is, one_outcome n text (Ok script) (Ok other) is is')

pub one_history : OneHistory
one_history = history_as IsAccepted accepted_alike

pub one_run : OneRun
one_run = run_as IsAccepted accepted_alike
