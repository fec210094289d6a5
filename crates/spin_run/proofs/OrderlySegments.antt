-- What holds of each segment of an orderly script.
use Rattle.std.proofs.Common.{◌≡◌, ◌<◌, ◌≤◌, ◌+◌, ℕ, Bool, List, [], ◌∷◌, ◌++◌, length, take, drop, Some, cond, get_or, sym, ap, subst, ◌∙◌, arith, append_assoc}
use Rattle.std.specs.Prelude.{slice_get, sum_by, All, AllPairs, count_by}
use Rattle.std.specs.List.{flat_map}
use Rattle.std.proofs.lemmas.Grind.{flat_map-append}
use Rattle.std.proofs.lemmas.List.{length-append, get_or_append_left, get_or-append-add, take-append-drop, append-nil}
use Rattle.std.proofs.lemmas.List.Sums.{sum_by-append}
use Rattle.spin_script.specs.declared.script.Line.{Line}
use Rattle.spin_script.specs.declared.script.Segment.{Segment}
use Rattle.spin_script.specs.States.{ScriptData, deed_count}
use Rattle.spin_script.specs.Soundness.{lines_in, AreValid, IsValidWork, command_lines, is_command_work, commands_in}
use Rattle.spin_script.specs.Segments.{IsOrderly, IsOnLane}
use Rattle.spin_run.specs.Segments.{IsFitSegment}
use Rattle.spin_run.specs.Inner.Steps.{Setting, setting_of, script_in}
use Rattle.spin_run.proofs.SegmentRuns.{take_next}

-- a part of a list
middle_at : {X : Type 0} (a m b : List X) (k : ℕ) (d : X) → k < length m → get_or (a ++ (m ++ b)) (length a + k) d ≡ get_or m k d
middle_at a m b k d lt = get_or-append-add a (m ++ b) k d ∙ get_or_append_left m b d k lt

all_middle : {X : Type 0} (P : X → Type 0) (a m b : List X) → All P (a ++ (m ++ b)) → All P m
all_middle P a m b h = λ k d lt. subst P (middle_at a m b k d lt) (h (length a + k) d (omega (arith, length-append a (m ++ b), length-append m b, lt)))

pairs_middle : {X : Type 0} (R : X → X → Type 0) (a m b : List X) → AllPairs R (a ++ (m ++ b)) → AllPairs R m
pairs_middle {X} R a m b h = λ i j d lt inside.
    let pair = h (length a + i) (length a + j) d (omega (arith, lt)) (omega (arith, length-append a (m ++ b), length-append m b, inside)) in
    subst (λ (x : X). R x (get_or m j d)) (middle_at a m b i d (omega (arith, lt, inside))) (subst (λ (y : X). R (get_or (a ++ (m ++ b)) (length a + i) d) y) (middle_at a m b j d inside) pair)

-- what a segment adds to a list
around : {X : Type 0} (f : Segment → List X) (segments : List Segment) (i : ℕ) (segment : Segment) → slice_get segments i ≡ Some segment
    → flat_map f segments ≡ flat_map f (take i segments) ++ (f segment ++ flat_map f (drop (i + 1) segments))
around f segments i segment there =
    ap (flat_map f)
    (sym (take-append-drop (i + 1) segments) ∙ ap (λ x. x ++ drop (i + 1) segments) (take_next segments i segment there) ∙ append_assoc (take i segments) (segment ∷ []) (drop (i + 1) segments))
    ∙ flat_map-append f (take i segments) (segment ∷ drop (i + 1) segments)

-- an orderly script is so in its setting, whatever its version
pub orderly_in : (script : ScriptData) (s : Setting) → s ≡ setting_of script → IsOrderly script → IsOrderly (script_in s script.segments 0)
orderly_in script s same h = subst (λ (x : Setting). IsOrderly (script_in x script.segments 0)) (sym same) (record {
  numbers = h.numbers;
  lanes = h.lanes;
  deeds = h.deeds;
  endpoints = h.endpoints;
})

abbrev lines_of : Segment → List Line
lines_of s = s.lines

abbrev deeds : List Line → ℕ
deeds lines = sum_by (λ (l : Line). deed_count l.work) lines

pub fits : (script : ScriptData) (i : ℕ) (segment : Segment) → slice_get script.segments i ≡ Some segment → IsOrderly script → AreValid script.segments → IsFitSegment script.lanes segment.lines
fits script i segment there orderly valid =
    let a = flat_map lines_of (take i script.segments) in
    let b = flat_map lines_of (drop (i + 1) script.segments) in
    let all : lines_in script.segments ≡ a ++ (segment.lines ++ b) = around lines_of script.segments i segment there in
    record {
      numbers = pairs_middle (λ (l m : Line). l.number < m.number) a segment.lines b (subst (λ (x : List Line). AllPairs (λ (l m : Line). l.number < m.number) x) all orderly.numbers);
      on_lane = all_middle (IsOnLane script.lanes) a segment.lines b (subst (λ (x : List Line). All (IsOnLane script.lanes) x) all orderly.lanes.each);
      valid = all_middle (λ (l : Line). IsValidWork l.work) a segment.lines b (subst (λ (x : List Line). All (λ (l : Line). IsValidWork l.work) x) all valid);
      few = omega (arith, orderly.deeds, ap deeds all, sum_by-append (λ (l : Line). deed_count l.work) a (segment.lines ++ b), sum_by-append (λ (l : Line). deed_count l.work) segment.lines b);
    }

pub retires_named : (script : ScriptData) (i : ℕ) (segment : Segment) → slice_get script.segments i ≡ Some segment
    → IsOrderly script → All (λ endpoint. endpoint < length script.endpoints) segment.retires
retires_named script i segment there orderly =
    let f : Segment → List ℕ = λ s. s.retires in
    let P : ℕ → Type 0 = λ endpoint. endpoint < length script.endpoints in
    all_middle P (flat_map f (take i script.segments)) segment.retires (flat_map f (drop (i + 1) script.segments))
    (subst (λ (x : List ℕ). All P x) (around f script.segments i segment there) orderly.endpoints.retired)

-- ---- commands

abbrev is_command_line : Line → Bool
is_command_line l = is_command_work l.work

count_append : (xs ys : List Line) → count_by is_command_line (xs ++ ys) ≡ count_by is_command_line xs + count_by is_command_line ys
count_append xs ys = sum_by-append (λ (l : Line). cond (is_command_line l) 1 0) xs ys

pub commands_more : (segments : List Segment) (i : ℕ) (segment : Segment) → slice_get segments i ≡ Some segment
    → (command_lines (take (i + 1) segments) ≡ command_lines (take i segments) + commands_in segment.lines) × (command_lines (take i segments) + commands_in segment.lines ≤ command_lines segments)
commands_more segments i segment there =
    let a = flat_map lines_of (take i segments) in
    let b = flat_map lines_of (drop (i + 1) segments) in
    let more : lines_in (take (i + 1) segments) ≡ a ++ segment.lines =
    ap (flat_map lines_of) (take_next segments i segment there) ∙ flat_map-append lines_of (take i segments) (segment ∷ []) ∙ ap (λ x. a ++ x) (append-nil segment.lines) in
    let all = around lines_of segments i segment there in (
      ap (count_by is_command_line) more ∙ count_append a segment.lines,
      omega (arith, ap (count_by is_command_line) all, count_append a (segment.lines ++ b), count_append segment.lines b),
    )
