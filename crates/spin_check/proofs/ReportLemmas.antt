-- A report, segment after segment.
use Rattle.std.proofs.Common.{◌≡◌, ◌≢◌, ℕ, zero, suc, ◌+◌, ◌<◌, ◌≤◌, Bool, false, cond, List, [], ◌∷◌, ◌++◌, length, drop, get_or, sym, ap, subst, ◌∙◌, arith}
use Rattle.std.specs.Prelude.{Option, None, Some, Decides, bytes_eq, All, count_by}
use Rattle.std.specs.List.{list_any, flat_map}
use Rattle.std.proofs.lemmas.List.{drop_more, drop_all}
use Rattle.std.proofs.lemmas.List.Elements.{All-head, All-tail, All-cons}
use Rattle.std.proofs.lemmas.List.Sums.{sum_by-append}
use Rattle.spin_endpoint.specs.Named.{NamedEnd}
use Rattle.spin_endpoint.specs.Sends.{name_of}
use Rattle.spin_table.specs.States.{start_of}
use Rattle.spin_table.specs.Soundness.{IsSoundVersion}
use Rattle.spin_text.specs.Words.{ended}
use Rattle.spin_script.specs.declared.script.Line.{Line}
use Rattle.spin_script.specs.declared.script.Segment.{Segment}
use Rattle.spin_script.specs.States.{ScriptData}
use Rattle.spin_script.specs.Soundness.{is_command_work, lines_in, commands_in}
use Rattle.spin_script.specs.Segments.{IsOrderly}
use Rattle.spin_report.specs.Histories.{first_line}
use Rattle.spin_report.specs.Runs.{CaptureSeen, frames_of, start_with}
use Rattle.spin_check.specs.RunTexts.{StandAs, IsRunText}
use Rattle.spin_check.specs.Inner.Standings.{AreFlags}
use Rattle.spin_check.specs.Inner.Segments.{Mark, standing, Goes, IsGoodMark, version_of}
use Rattle.spin_check.specs.Inner.Remains.{end_text, Remains, AreLeft}
use Rattle.spin_check.proofs.ReportRest.{remains_whole, whole_remains, no_front, remains_on, remains_back, no_segment, remains_end, end_remains}

-- how many of the lines of these segments are commands
abbrev commands_of : List Segment → ℕ
commands_of segments = count_by (λ line. is_command_work line.work) (lines_in segments)

-- what is left is of all segments just where the rest is of those that are left
pub record IsHere (script : ScriptData) (capture : Option CaptureSeen) (start : List NamedEnd) (begun : Mark) (number : ℕ) (mark : Mark) : Type 0 where
  pub ends : List NamedEnd
  pub flags : AreFlags script.endpoints ends mark.flags
  pub on : AreLeft script capture start begun → Remains script capture (drop number script.segments) number (standing mark ends) mark.rest
  pub back : Remains script capture (drop number script.segments) number (standing mark ends) mark.rest → AreLeft script capture start begun

pub record IsOnWhole (script : ScriptData) (capture : Option CaptureSeen) (begun : Mark) (number : ℕ) (mark : Mark) : Type 0 where
  pub here : (start : List NamedEnd) → AreFlags script.endpoints start begun.flags → IsHere script capture start begun number mark
  pub sound : IsSoundVersion script.setup (version_of mark)
  pub room : mark.state.place + commands_of (drop number script.segments) ≤ begun.state.place + commands_of script.segments
  pub long : length mark.flags ≡ length script.endpoints
  pub left : length mark.left ≤ length (frames_of capture)

pub on_whole_none : (script : ScriptData) (capture : Option CaptureSeen) (mark : Mark) → IsSoundVersion script.setup (version_of mark)
    → length mark.flags ≡ length script.endpoints → length mark.left ≤ length (frames_of capture)
    → IsOnWhole script capture mark 0 mark
on_whole_none script capture mark sound long left = record {
  here = λ start flags. record { ends = start; flags = flags; on = λ h. h; back = λ h. h };
  sound = sound;
  room = omega arith;
  long = long;
  left = left;
}

-- the flags at the start, of the names that stand
pub flags_first : (script : ScriptData) (names : List (List ℕ)) (flags : List Bool) (start : List NamedEnd) → IsOrderly script → length flags ≡ length script.endpoints
    → ((n : ℕ) → n < length script.endpoints → get_or flags n false ≡ list_any (bytes_eq (name_of script.endpoints n)) names) → StandAs script.endpoints names start
    → AreFlags script.endpoints start flags
flags_first script names flags start orderly long each named = record { all = long; differ = orderly.endpoints.differ; each = λ n lt. each n lt ∙ sym (named n [] lt) }

-- behind the first line, the report is one of the script just where what is left is of its segments
pub whole_text : (script : ScriptData) (capture : Option CaptureSeen) (start : List NamedEnd) (report : List ℕ) (mark : Mark) (b : Bool) → report ≡ ended first_line ++ mark.rest
    → mark.state ≡ start_of script.setup → mark.left ≡ frames_of capture → Decides b (AreLeft script capture start mark) → Decides b (IsRunText script capture start report)
whole_text script capture start report mark b begins state left decides =
    let at : standing mark start ≡ start_with script (frames_of capture) start = λ i. record { state = state i; left = left i; ends = start } in (
      λ t. remains_whole script capture start report mark.rest begins (subst (λ s. Remains script capture script.segments 0 s mark.rest) at (decides.0 t)),
      λ h.
          decides.1 (subst (λ s. Remains script capture script.segments 0 s mark.rest) (sym at) (whole_remains script capture start report mark.rest begins h)),
    )

next_segment : (script : ScriptData) (number : ℕ) (segment : Segment) → number < length script.segments
    → segment ≡ get_or script.segments number segment → drop number script.segments ≡ segment ∷ drop (number + 1) script.segments
next_segment script number segment lt is = drop_more script.segments number segment lt ∙ ap (λ s. s ∷ drop (number + 1) script.segments) (sym is)

commands_next : (script : ScriptData) (number : ℕ) (segment : Segment) → number < length script.segments → segment ≡ get_or script.segments number segment
    → commands_of (drop number script.segments) ≡ commands_in segment.lines + commands_of (drop (number + 1) script.segments)
commands_next script number segment lt is =
    ap commands_of (next_segment script number segment lt is)
    ∙ sum_by-append (λ (line : Line). cond (is_command_work line.work) 1 0) segment.lines (lines_in (drop (number + 1) script.segments))

pub room_here : (script : ScriptData) (capture : Option CaptureSeen) (begun : Mark) (number : ℕ) (mark : Mark) (segment : Segment)
    → number < length script.segments → segment ≡ get_or script.segments number segment
    → IsOnWhole script capture begun number mark → mark.state.place + commands_in segment.lines ≤ begun.state.place + commands_of script.segments
room_here script capture begun number mark segment lt is whole = omega (arith, whole.room, commands_next script number segment lt is)

pub on_whole_more : (script : ScriptData) (capture : Option CaptureSeen) (begun : Mark) (number : ℕ) (mark next : Mark) (segment : Segment) → number < length script.segments
    → segment ≡ get_or script.segments number segment
    → ((names : List (List ℕ)) (ends : List NamedEnd) → AreFlags names ends mark.flags → Goes script.setup script.lanes names number segment mark ends (Some next))
    → IsGoodMark script.setup segment mark (Some next) → IsOnWhole script capture begun number mark → IsOnWhole script capture begun (number + 1) next
on_whole_more script capture begun number mark next segment lt is goes good whole =
    let split = next_segment script number segment lt is in
    let others = drop (number + 1) script.segments in
    record {
      here = λ start flags.
          let h = whole.here start flags in
          let p = goes script.endpoints h.ends h.flags in
          record {
            ends = p.ends_after;
            flags = p.flags;
            on = λ r. remains_on script capture segment others number mark next h.ends p (subst (λ l. Remains script capture l number (standing mark h.ends) mark.rest) split (h.on r));
            back = λ r. h.back (subst (λ l. Remains script capture l number (standing mark h.ends) mark.rest) (sym split) (remains_back script capture segment others number mark next h.ends p r));
          };
      sound = good.0;
      room = omega (arith, whole.room, good.1, commands_next script number segment lt is);
      long = good.2 ∙ whole.long;
      left = omega (arith, good.3, whole.left);
    }

pub no_more : (script : ScriptData) (capture : Option CaptureSeen) (begun : Mark) (number : ℕ) (mark : Mark) (segment : Segment)
    → number < length script.segments → segment ≡ get_or script.segments number segment
    → ((names : List (List ℕ)) (ends : List NamedEnd) → AreFlags names ends mark.flags → Goes script.setup script.lanes names number segment mark ends None)
    → IsOnWhole script capture begun number mark → (start : List NamedEnd) → AreFlags script.endpoints start begun.flags → Decides false (AreLeft script capture start begun)
no_more script capture begun number mark segment lt is goes whole start flags =
    let h = whole.here start flags in
    let split = next_segment script number segment lt is in (
      λ f. absurd (cc (f)),
      λ r. absurd (no_segment script capture segment (drop (number + 1) script.segments) number mark mark h.ends (goes script.endpoints h.ends h.flags)
          (subst (λ l. Remains script capture l number (standing mark h.ends) mark.rest) split (h.on r))),
    )

pub whole_end : (script : ScriptData) (capture : Option CaptureSeen) (begun : Mark) (number : ℕ) (mark : Mark) (b : Bool) → length script.segments ≤ number
    → ((ends : List NamedEnd) → Decides b (mark.rest ≡ end_text capture (standing mark ends)))
    → IsOnWhole script capture begun number mark → (start : List NamedEnd) → AreFlags script.endpoints start begun.flags → Decides b (AreLeft script capture start begun)
whole_end script capture begun number mark b past decides whole start flags =
    let h = whole.here start flags in
    let none : drop number script.segments ≡ [] = drop_all number script.segments past in
    let both = decides h.ends in (
      λ f. h.back (subst (λ l. Remains script capture l number (standing mark h.ends) mark.rest) (sym none) (remains_end script capture number (standing mark h.ends) mark.rest (both.0 f))),
      λ r. both.1 (end_remains script capture number (standing mark h.ends) mark.rest (subst (λ l. Remains script capture l number (standing mark h.ends) mark.rest) none (h.on r))),
    )

pub no_begin : (script : ScriptData) (capture : Option CaptureSeen) (start : List NamedEnd) (report : List ℕ)
    → ((rest : List ℕ) → report ≢ ended first_line ++ rest) → Decides false (IsRunText script capture start report)
no_begin script capture start report none = (λ f. absurd (cc (f)), λ r. absurd (no_front script capture start report none r))

-- ---- what holds of one segment's lines and retirements

front_all : {A : Type 0} (P : A → Type 0) (xs ys : List A) → All P (xs ++ ys) → All P xs
front_all P [] ys h = λ k d lt. absurd (omega (arith, lt))
front_all P (x ∷ xs) ys h = All-cons P x xs (All-head P x (xs ++ ys) h) (front_all P xs ys (All-tail P x (xs ++ ys) h))

behind_all : {A : Type 0} (P : A → Type 0) (xs ys : List A) → All P (xs ++ ys) → All P ys
behind_all P [] ys h = h
behind_all P (x ∷ xs) ys h = behind_all P xs ys (All-tail P x (xs ++ ys) h)

pub all_here : {S A : Type 0} (P : A → Type 0) (f : S → List A) (segments : List S) (number : ℕ) (segment : S) → number < length segments → segment ≡ get_or segments number segment
    → All P (flat_map f segments) → All P (f segment)
all_here P f [] number segment lt is h = absurd (omega (arith, lt))
all_here P f (s ∷ segments) zero segment lt is h = subst (λ t. All P (f t)) (sym is) (front_all P (f s) (flat_map f segments) h)
all_here P f (s ∷ segments) (suc number) segment lt is h = all_here P f segments number segment (omega (arith, lt)) is (behind_all P (f s) (flat_map f segments) h)
