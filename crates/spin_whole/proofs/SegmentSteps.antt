-- Segments, one after another.
use Rattle.std.proofs.Common.{◌≡◌, ◌<◌, ◌≤◌, ◌+◌, ℕ, cond, List, [], ◌∷◌, ◌++◌, map, length, take, drop, get_or, refl, sym, ap, subst, ◌∙◌, append_assoc, arith}
use Rattle.std.specs.Prelude.{filter, Option}
use Rattle.std.specs.Arc.{arc_value}
use Rattle.std.specs.Option.{option_map}
use Rattle.std.specs.List.{enumerate_from, flat_map}
use Rattle.std.proofs.lemmas.Grind.{flat_map-append}
use Rattle.std.proofs.lemmas.List.{append-nil, length-append, take_more, take_all, drop_more}
use Rattle.std.proofs.lemmas.List.Sums.{sum_by-append}
use Rattle.spin_endpoint.specs.Named.{NamedEnd}
use Rattle.spin_endpoint.specs.Sends.{SentSeen, all_received, all_retired}
use Rattle.spin_table.specs.Setups.{SetupData}
use Rattle.spin_table.specs.Soundness.{IsSoundVersion}
use Rattle.spin_text.specs.Words.{ended, text_of}
use Rattle.spin_script.specs.declared.script.Line.{Line}
use Rattle.spin_script.specs.declared.script.Segment.{Segment}
use Rattle.spin_script.specs.Soundness.{is_command_work, lines_in, commands_in, command_lines}
use Rattle.spin_script.specs.States.{ScriptData}
use Rattle.spin_report.specs.Lines.{entry_line, job_line}
use Rattle.spin_report.specs.Histories.{SegmentSeen, HistorySeen, first_line, retire_line, segment_line, segment_lines, lost_lines, end_line, front_lines}
use Rattle.spin_report.specs.Runs.{RunPoint, CaptureSeen, IsSegmentRun, AreRun, frames_of, start_with, counts_of, segment_sends}
use Rattle.spin_check.specs.Inner.Standings.{AreFlags}
use Rattle.spin_check.proofs.ReplayLemmas.{text_of-append}
use Rattle.spin_whole.specs.declared.ran.Ran.{Ran}
use Rattle.spin_whole.specs.declared.segment.Standing.{Standing}
use Rattle.spin_whole.specs.Runs.{is_received, sends_received, IsRanAs}
use Rattle.spin_whole.specs.Inner.Standings.{point, lines_of, IsGood, RunsOne, RunsAll}
use Rattle.spin_whole.proofs.JobSteps.{added_twice}

-- ---- the text of a segment

pub part_text : (number : ℕ) (s : SegmentSeen)
    → text_of (segment_lines number s) ≡ (text_of (map retire_line s.retired) ++ ended (segment_line number s.start))
    ++ (text_of (map entry_line s.entries) ++ (text_of (map job_line s.jobs) ++ text_of (lost_lines s.lost)))
part_text number s =
    let r = map retire_line s.retired in
    let h = segment_line number s.start ∷ [] in
    let e = map entry_line s.entries in
    let j = map job_line s.jobs in
    let l = lost_lines s.lost in
    let head = text_of r ++ ended (segment_line number s.start) in
    text_of-append (r ++ h ++ e ++ j) l
    ∙ ap (λ t. t ++ text_of l) (text_of-append (r ++ h ++ e) j
    ∙ ap (λ t. t ++ text_of j) (text_of-append (r ++ h) e ∙ ap (λ t. t ++ text_of e) (text_of-append r h ∙ ap (λ t. text_of r ++ t) (append-nil (ended (segment_line number s.start))))))
    ∙ append_assoc (head ++ text_of e) (text_of j) (text_of l)
    ∙ append_assoc head (text_of e) (text_of j ++ text_of l)

-- ---- one segment more

run_push : (script : ScriptData) (segments : List Segment) (segment : Segment) (before middle next : RunPoint) (seen : List SegmentSeen) (part : SegmentSeen)
    → AreRun script segments before seen middle → IsSegmentRun script.setup script.lanes script.endpoints segment middle part next
    → AreRun script (segments ++ segment ∷ []) before (seen ++ part ∷ []) next
run_push script [] segment before middle next seen part run one = (
  part,
  [],
  next,
  ap (λ l. l ++ part ∷ []) run.0,
  subst (λ m. IsSegmentRun script.setup script.lanes script.endpoints segment m part next) run.1 one,
  (refl, refl),
)
run_push script (s ∷ segments) segment before middle next seen part run one = (
  run.0,
  run.1 ++ part ∷ [],
  run.2,
  ap (λ l. l ++ part ∷ []) run.3,
  run.4,
  run_push script segments segment run.2 middle next run.1 part run.5 one,
)

abbrev received_of : List (List ℕ) → Segment → List NamedEnd → SegmentSeen → List SentSeen
received_of names segment ends part = filter (is_received names (all_retired names segment.retires ends)) (segment_sends part)

received_push : (script : ScriptData) (segments : List Segment) (segment : Segment) (before middle : RunPoint) (seen : List SegmentSeen) (part : SegmentSeen)
    → AreRun script segments before seen middle
    → sends_received script.endpoints (segments ++ segment ∷ []) before.ends (seen ++ part ∷ [])
    ≡ sends_received script.endpoints segments before.ends seen ++ received_of script.endpoints segment middle.ends part
received_push script [] segment before middle seen part run =
    ap (λ l. sends_received script.endpoints (segment ∷ []) before.ends (l ++ part ∷ [])) run.0
    ∙ append-nil (received_of script.endpoints segment before.ends part)
    ∙ ap (λ (m : RunPoint). received_of script.endpoints segment m.ends part) (sym run.1)
received_push script (s ∷ segments) segment before middle seen part run =
    let names = script.endpoints in
    let first = run.0 in
    let others = run.1 in
    let next = run.2 in
    let after = all_received names (segment_sends first) (all_retired names s.retires before.ends) in
    let rest = received_push script segments segment next middle others part run.5 in
    let own = received_of names s before.ends first in
    ap (λ l. sends_received names (s ∷ (segments ++ segment ∷ [])) before.ends (l ++ part ∷ [])) run.3
    ∙ ap (λ ends. own ++ sends_received names (segments ++ segment ∷ []) ends (others ++ part ∷ [])) (sym run.4.ends)
    ∙ ap (λ l. own ++ l) rest
    ∙ sym (append_assoc own (sends_received names segments next.ends others) (received_of names segment middle.ends part))
    ∙ ap (λ ends. (own ++ sends_received names segments ends others) ++ received_of names segment middle.ends part) run.4.ends
    ∙ ap (λ l. sends_received names (s ∷ segments) before.ends l ++ received_of names segment middle.ends part) (sym run.3)

abbrev lines_at : ℕ × SegmentSeen → List (List ℕ)
lines_at numbered = segment_lines numbered.0 numbered.1

enumerate-push : (from : ℕ) (xs : List SegmentSeen) (x : SegmentSeen) → enumerate_from from (xs ++ x ∷ []) ≡ enumerate_from from xs ++ (from + length xs, x) ∷ []
enumerate-push from [] x = ap (λ n. (n, x) ∷ []) (omega arith)
enumerate-push from (y ∷ xs) x = ap (λ l. (from, y) ∷ l) (enumerate-push (from + 1) xs x ∙ ap (λ n. enumerate_from (from + 1) xs ++ (n, x) ∷ []) (omega arith))

lines_push : (parts : List SegmentSeen) (part : SegmentSeen) → text_of (lines_of (parts ++ part ∷ [])) ≡ text_of (lines_of parts) ++ text_of (segment_lines (length parts) part)
lines_push parts part =
    let number : 0 + length parts ≡ length parts = omega arith in
    ap (λ l. text_of (flat_map lines_at l)) (enumerate-push 0 parts part)
    ∙ ap text_of (flat_map-append lines_at (enumerate_from 0 parts) ((0 + length parts, part) ∷ []))
    ∙ ap (λ l. text_of (lines_of parts ++ l)) (append-nil (segment_lines (0 + length parts) part))
    ∙ text_of-append (lines_of parts) (segment_lines (0 + length parts) part)
    ∙ ap (λ n. text_of (lines_of parts) ++ text_of (segment_lines n part)) number

-- the first segments were run, so many of them
pub record HasRun (script : ScriptData) (ends : List NamedEnd) (start : Standing) (k : ℕ) (now : Standing) : Type 0 where
  pub parts : List SegmentSeen
  pub ends_after : List NamedEnd
  pub run : AreRun script (take k script.segments) (point start ends) parts (point now ends_after)
  pub count : length parts ≡ k
  pub text : now.report ≡ start.report ++ text_of (lines_of parts)
  pub sends : now.sends ≡ start.sends ++ sends_received script.endpoints (take k script.segments) ends parts
  pub flags : AreFlags script.endpoints ends_after now.flags.items

pub has_run_none : (script : ScriptData) (ends : List NamedEnd) (start : Standing) → AreFlags script.endpoints ends start.flags.items → HasRun script ends start 0 start
has_run_none script ends start flags = record {
  parts = [];
  ends_after = ends;
  run = (refl, refl);
  count = refl;
  text = sym (append-nil start.report);
  sends = sym (append-nil start.sends);
  flags = flags;
}

pub has_run_more : (script : ScriptData) (ends : List NamedEnd) (start : Standing) (k : ℕ) (now next : Standing) (segment : Segment) → k < length script.segments
    → get_or script.segments k segment ≡ segment
    → ((names : List (List ℕ)) (ends_now : List NamedEnd) → AreFlags names ends_now now.flags.items → RunsOne script.setup script.lanes names k segment ends_now now next)
    → HasRun script ends start k now → HasRun script ends start (k + 1) next
has_run_more script ends start k now next segment lt is runs has =
    let one = runs script.endpoints has.ends_after has.flags in
    let more : take (k + 1) script.segments ≡ take k script.segments ++ segment ∷ [] = take_more script.segments k segment lt ∙ ap (λ s. take k script.segments ++ s ∷ []) is in
    let before = point start ends in
    let middle = point now has.ends_after in
    let parts = has.parts ++ one.part ∷ [] in
    let received = received_of script.endpoints segment has.ends_after one.part in
    record {
      parts = parts;
      ends_after = one.ends_after;
      run = subst (λ l. AreRun script l before parts (point next one.ends_after)) (sym more) (run_push script (take k script.segments) segment before middle (point next one.ends_after) has.parts one.part has.run one.run);
      count = omega (arith, length-append has.parts (one.part ∷ []), has.count);
      text =
          added_twice start.report now.report next.report (text_of (lines_of has.parts)) (text_of (segment_lines k one.part)) (text_of (lines_of parts)) has.text one.text
          (lines_push has.parts one.part ∙ ap (λ n. text_of (lines_of has.parts) ++ text_of (segment_lines n one.part)) has.count);
      sends =
          added_twice start.sends now.sends next.sends (sends_received script.endpoints (take k script.segments) ends has.parts) received
          (sends_received script.endpoints (take (k + 1) script.segments) ends parts) has.sends one.sends
          (ap (λ l. sends_received script.endpoints l ends parts) more ∙ received_push script (take k script.segments) segment before middle has.parts one.part has.run);
      flags = one.flags;
    }

pub has_run_all : (script : ScriptData) (ends : List NamedEnd) (start : Standing) (k : ℕ) (now : Standing) → length script.segments ≤ k → HasRun script ends start k now → RunsAll script ends start now
has_run_all script ends start k now past has =
    let all : take k script.segments ≡ script.segments = take_all k script.segments past in
    record {
      parts = has.parts;
      ends_after = has.ends_after;
      run = subst (λ l. AreRun script l (point start ends) has.parts (point now has.ends_after)) all has.run;
      text = has.text;
      sends = has.sends ∙ ap (λ l. start.sends ++ sends_received script.endpoints l ends has.parts) all;
    }

-- ---- what the next segment needs

next_segment : (segments : List Segment) (k : ℕ) (segment : Segment) → k < length segments → get_or segments k segment ≡ segment → drop k segments ≡ segment ∷ drop (k + 1) segments
next_segment segments k segment lt is = drop_more segments k segment lt ∙ ap (λ s. s ∷ drop (k + 1) segments) is

commands_next : (segments : List Segment) (k : ℕ) (segment : Segment) → k < length segments → get_or segments k segment ≡ segment
    → command_lines (drop k segments) ≡ commands_in segment.lines + command_lines (drop (k + 1) segments)
commands_next segments k segment lt is =
    ap command_lines (next_segment segments k segment lt is)
    ∙ sum_by-append (λ (line : Line). cond (is_command_work line.work) 1 0) segment.lines (lines_in (drop (k + 1) segments))

-- before segment k there is room for the commands that are left, the state is sound, and flags and records are as many
-- as they may be
pub record IsOnWay (d : SetupData) (segments : List Segment) (start : Standing) (k : ℕ) (now : Standing) : Type 0 where
  pub sound : IsSoundVersion d (arc_value now.version)
  pub room : (arc_value now.version).state.place + command_lines (drop k segments) ≤ (arc_value start.version).state.place + command_lines segments
  pub long : length now.flags.items ≡ length start.flags.items
  pub left : length now.left.now ≤ length start.left.now

pub on_way_none : (d : SetupData) (segments : List Segment) (start : Standing) → IsSoundVersion d (arc_value start.version) → IsOnWay d segments start 0 start
on_way_none d segments start sound = record { sound = sound; room = omega arith; long = refl; left = omega arith }

pub room_here : (d : SetupData) (segments : List Segment) (start : Standing) (k : ℕ) (now : Standing) (segment : Segment) → k < length segments → get_or segments k segment ≡ segment
    → IsOnWay d segments start k now → (arc_value now.version).state.place + commands_in segment.lines ≤ (arc_value start.version).state.place + command_lines segments
room_here d segments start k now segment lt is way = omega (arith, way.room, commands_next segments k segment lt is)

pub on_way_more : (d : SetupData) (segments : List Segment) (start : Standing) (k : ℕ) (now next : Standing) (segment : Segment) → k < length segments → get_or segments k segment ≡ segment
    → IsGood d segment now next → IsOnWay d segments start k now → IsOnWay d segments start (k + 1) next
on_way_more d segments start k now next segment lt is good way = record {
  sound = good.sound;
  room = omega (arith, way.room, good.place, commands_next segments k segment lt is);
  long = good.flags ∙ way.long;
  left = omega (arith, good.left, way.left);
}

-- ---- the whole run

pub is_ran : (script : ScriptData) (capture : Option CaptureSeen) (ends : List NamedEnd) (start now : Standing) (ran : Ran)
    → point start ends ≡ start_with script (frames_of capture) ends → start.report ≡ ended first_line → start.sends ≡ []
    → RunsAll script ends start now
    → ran.report ≡ now.report ++ ended (end_line (arc_value now.version).state.place (option_map (counts_of now.left.now) capture)) → ran.sends ≡ now.sends
    → IsRanAs script capture ends ran
is_ran script capture ends start now ran at begins none all report sends =
    let last = point now all.ends_after in
    let counts = option_map (counts_of now.left.now) capture in
    let ending = end_line (arc_value now.version).state.place counts in
    let history : HistorySeen = record { segments = all.parts; end = (arc_value now.version).state.place; capture = counts } in (
      history,
      last,
      record {
        segments = subst (λ b. AreRun script script.segments b all.parts last) at all.run;
        end = refl;
        capture_is = refl;
      },
      report ∙ ap (λ t. t ++ ended ending) (all.text ∙ ap (λ t. t ++ text_of (lines_of all.parts)) begins)
          ∙ sym (text_of-append (front_lines all.parts) (ending ∷ []) ∙ ap (λ t. text_of (front_lines all.parts) ++ t) (append-nil (ended ending))),
      sends ∙ all.sends ∙ ap (λ l. l ++ sends_received script.endpoints script.segments ends all.parts) none,
    )
