-- The lane lines stay counted, few and valid.
use Rattle.std.proofs.Common.{◌≡◌, ◌≤◌, ◌+◌, ℕ, cond, List, [], ◌∷◌, ◌++◌, refl, sym, ap, ◌∙◌, arith}
use Rattle.std.specs.List.{count_by}
use Rattle.std.proofs.lemmas.List.{append-nil, append_assoc, flat_map_more}
use Rattle.std.proofs.lemmas.List.Elements.{All-nil, All-push, All-same}
use Rattle.std.proofs.lemmas.List.Sums.{sum_by-append}
use Rattle.spin_script.specs.declared.script.Line.{Line}
use Rattle.spin_script.specs.declared.script.Segment.{Segment}
use Rattle.spin_word.specs.declared.work.Work.{Work}
use Rattle.spin_word.specs.declared.work.Work.TheVariants as work
use Rattle.spin_script.specs.States.{command_count, empty_segment}
use Rattle.spin_script.specs.Soundness.{lines_in, IsValidWork, is_command_work}
use Rattle.spin_script.specs.Inner.Sound.{HasCommands}

-- the lane lines of segments, of which the last goes on
last_lines : (ended : List Segment) (s : Segment) → lines_in (ended ++ s ∷ []) ≡ lines_in ended ++ s.lines
last_lines ended s = sym (flat_map_more (λ (t : Segment). t.lines) [] ended s)

same_work : (commands : ℕ) (before after : List Segment) → lines_in after ≡ lines_in before → HasCommands commands before → HasCommands commands after
same_work commands before after same w = record {
  counted = ap (λ (ls : List Line). count_by (λ line. is_command_work line.work) ls) same ∙ w.counted;
  few = w.few;
  valid = All-same (λ (line : Line). IsValidWork line.work) (lines_in after) (lines_in before) same w.valid;
}

pub work_none : HasCommands 0 (empty_segment ∷ [])
work_none = record { counted = refl; few = omega arith; valid = All-nil (λ (line : Line). IsValidWork line.work) }

-- a segment ends
pub work_barrier : (commands : ℕ) (ended : List Segment) (s : Segment) → HasCommands commands (ended ++ s ∷ []) → HasCommands commands ((ended ++ s ∷ []) ++ empty_segment ∷ [])
work_barrier commands ended s =
    same_work commands (ended ++ s ∷ []) ((ended ++ s ∷ []) ++ empty_segment ∷ []) (last_lines (ended ++ s ∷ []) empty_segment ∙ append-nil (lines_in (ended ++ s ∷ [])))

-- an endpoint is retired
pub work_retire : (commands : ℕ) (ended : List Segment) (s t : Segment) → t.lines ≡ s.lines → HasCommands commands (ended ++ s ∷ []) → HasCommands commands (ended ++ t ∷ [])
work_retire commands ended s t same =
    same_work commands (ended ++ s ∷ []) (ended ++ t ∷ []) (last_lines ended t ∙ ap (λ (ls : List Line). lines_in ended ++ ls) same ∙ sym (last_lines ended s))

counted_one : (number lane : ℕ) (w : Work) → count_by (λ (line : Line). is_command_work line.work) (record { number = number; lane = lane; work = w } ∷ []) ≡ command_count w
counted_one number lane (work.Command c) = refl
counted_one number lane (work.Deed d) = refl
counted_one number lane (work.Packet e n) = refl

-- a lane line more
pub work_more : (commands : ℕ) (ended : List Segment) (s t : Segment) (line : Line)
    → t.lines ≡ s.lines ++ line ∷ [] → commands + command_count line.work ≤ 4096 → IsValidWork line.work
    → HasCommands commands (ended ++ s ∷ []) → HasCommands (commands + command_count line.work) (ended ++ t ∷ [])
work_more commands ended s t line more few right w =
    let before : List Line = lines_in (ended ++ s ∷ []) in
    let same : lines_in (ended ++ t ∷ []) ≡ before ++ line ∷ [] =
    last_lines ended t ∙ ap (λ (ls : List Line). lines_in ended ++ ls) more ∙ sym (append_assoc (lines_in ended) s.lines (line ∷ []))
    ∙ ap (λ (ls : List Line). ls ++ line ∷ []) (sym (last_lines ended s)) in
    record {
      counted =
          ap (λ (ls : List Line). count_by (λ l. is_command_work l.work) ls) same
          ∙ sum_by-append (λ (l : Line). cond (is_command_work l.work) 1 0) before (line ∷ [])
          ∙ ap (λ k. k + count_by (λ (l : Line). is_command_work l.work) (line ∷ [])) w.counted
          ∙ ap (λ k. commands + k) (counted_one line.number line.lane line.work);
      few = few;
      valid = All-same (λ (l : Line). IsValidWork l.work) (lines_in (ended ++ t ∷ [])) (before ++ line ∷ []) same (All-push (λ (l : Line). IsValidWork l.work) before line w.valid right);
    }
