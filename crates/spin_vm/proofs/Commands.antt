-- Commands one after another.
use Rattle.std.proofs.Common.{filter, Result, Err, subst, rules, ◌≡◌, ◌+◌, ◌<◌, ◌≤◌, ◌&&◌, ◌==◌, ℕ, zero, suc, Bool, true, false, List, [], ◌∷◌}
use Rattle.std.proofs.Common.{length, Option, Some, None, MatchOption, count_by, slice_get, slice_index_or, refl, sym, ap, ◌∙◌, arith, append-nil}
use Rattle.std.proofs.lemmas.Option.{same_Some}
use Rattle.spin_script.specs.declared.script.Line.{Line}
use Rattle.spin_script.specs.declared.script.Segment.{Segment}
use Rattle.spin_script.specs.States.{ScriptData}
use Rattle.spin_script.specs.Soundness.{lines_in, is_command_work}
use Rattle.spin_word.specs.declared.command.Command.{Command}
use Rattle.spin_table.specs.declared.refusal.Refusal.{Refusal}
use Rattle.spin_table.specs.declared.refusal.Verdicted.{Verdicted}
use Rattle.spin_table.specs.declared.refusal.Verdicted.TheVariants as verdicted
use Rattle.spin_table.specs.Setups.{SetupData}
use Rattle.spin_table.specs.States.{State, VersionValue}
use Rattle.spin_table.specs.Refusals.{refusal_of}
use Rattle.spin_table.specs.Steps.{ChangesTo, IsAnswer}
use Rattle.spin_table.specs.declared.refusal.StepFault.{StepFault}
use Rattle.spin_table.specs.declared.refusal.StepFault.TheVariants as fault
use Rattle.std.proofs.lemmas.List.Sums.{length-filter}
use Rattle.spin_word.specs.declared.work.Work.{Work}
use Rattle.spin_word.specs.declared.work.Work.TheVariants as work
use Rattle.spin_vm.specs.Scripts.{Leads, are_commands, asks_commands, has_fault_events, is_suited}
use Rattle.spin_vm.specs.Inner.Commands.{LeadsBy}

changes_place : (d : SetupData) (s : State) (c : Command) (v : Verdicted) (next : State) → ChangesTo d s c v next → next.place ≤ s.place + 1
changes_place d s c verdicted.Accepted next h = let e = ap (λ (t : State). t.place) h.0 in omega (arith, e)
changes_place d s c (verdicted.Refused r) next h = let e = ap (λ (t : State). t.place) h.0 in omega (arith, e)

step_place : (d : SetupData) (s : State) (c : Command) (v : Verdicted) (next : State) (o : Option Refusal)
    → MatchOption o (ChangesTo d s c v next) (λ r. (v ≡ verdicted.Refused r) × (next ≡ s)) → next.place ≤ s.place + 1
step_place d s c v next None h = changes_place d s c v next h
step_place d s c v next (Some r) h = let e = ap (λ (t : State). t.place) h.1 in omega (arith, e)

-- a command raises the place by one at most
pub leads_place : (d : SetupData) (s : State) (w : Work) (next : State) → Leads d s w next → next.place ≤ s.place + 1
leads_place d s (work.Command c) next (v, h) = step_place d s c v next (refusal_of d s c) h
leads_place d s (work.Deed asked) next h = absurd h
leads_place d s (work.Packet event count) next h = absurd h

-- ---- a script's lines

pub command_at : (lines : List Line) (k : ℕ) (line : Line) → are_commands lines ≡ true → k < length lines → line ≡ slice_index_or lines k line → is_command_work line.work ≡ true
command_at [] k line all lt is = absurd (omega (arith, lt))
command_at (x ∷ lines) zero line all lt is =
    let here : is_command_work x.work ≡ true = grind (arith, all) in
    ap (λ (l : Line). is_command_work l.work) is ∙ here
command_at (x ∷ lines) (suc k) line all lt is = command_at lines k line (grind (arith, all)) (omega (arith, lt)) is

all_kept : (lines : List Line) → are_commands lines ≡ true → filter (λ (l : Line). is_command_work l.work) lines ≡ lines
all_kept [] all = refl
all_kept (x ∷ lines) all =
    let here : is_command_work x.work ≡ true = grind (arith, all) in
    let rest = all_kept lines (grind (arith, all)) in
    rw here (ap (λ ls. x ∷ ls) rest)

pub count_is : (lines : List Line) → are_commands lines ≡ true → count_by (λ (l : Line). is_command_work l.work) lines ≡ length lines
count_is lines all = sym (length-filter (λ (l : Line). is_command_work l.work) lines) ∙ ap length (all_kept lines all)

-- the lines of one segment are those of the script
pub lines_are : (segments : List Segment) (s : Segment) → length segments ≡ 1 → slice_get segments 0 ≡ Some s → lines_in segments ≡ s.lines
lines_are [] s one read = absurd (omega (arith, one))
lines_are (x ∷ []) s one read = append-nil x.lines ∙ ap (λ (y : Segment). y.lines) (same_Some x s read)
lines_are (x ∷ y ∷ segments) s one read = absurd (omega (arith, one))

-- what a suited script has
equal : (m n : ℕ) → (m == n) ≡ true → m ≡ n
equal m n e = grind (arith, e)

parts : (a b c d : Bool) → (((a && b) && c) && d) ≡ true → (a ≡ true) × (c ≡ true)
parts true true true d e = (refl, refl)
parts true true false d e = absurd (search (rules, e))
parts true false c d e = absurd (search (rules, e))
parts false b c d e = absurd (search (rules, e))

suited_parts : (script : ScriptData) → is_suited script ≡ true → ((length script.segments == 1) ≡ true) × (asks_commands script.segments ≡ true)
suited_parts script e = parts (length script.segments == 1) (script.lanes == 1) (asks_commands script.segments) (has_fault_events script.setup.events) e

pub one_segment : (script : ScriptData) → is_suited script ≡ true → length script.segments ≡ 1
one_segment script e = equal (length script.segments) 1 (suited_parts script e).0

first_commands : (segments : List Segment) (s : Segment) → asks_commands segments ≡ true → slice_get segments 0 ≡ Some s → are_commands s.lines ≡ true
first_commands [] s all read = absurd (search (rules, read))
first_commands (x ∷ segments) s all read =
    let here : are_commands x.lines ≡ true = both (are_commands x.lines) (asks_commands segments) all in
    ap (λ (y : Segment). are_commands y.lines) (sym (same_Some x s read)) ∙ here where
      both : (p q : Bool) → (p && q) ≡ true → p ≡ true
      both true q e = refl
      both false q e = absurd (search (rules, e))

pub all_commands : (script : ScriptData) (s : Segment) → is_suited script ≡ true → slice_get script.segments 0 ≡ Some s → are_commands s.lines ≡ true
all_commands script s e read = first_commands script.segments s (suited_parts script e).1 read

-- a command that is refused has a verdict
pub leads_refused : (d : SetupData) (s : State) (c : Command) (r : Result VersionValue StepFault) (e : StepFault) (f : Refusal) → r ≡ Err e → e ≡ fault.Refused f → IsAnswer d s c r → LeadsBy d s c s
leads_refused d s c r e f is why h = (verdicted.Refused f, subst (λ (x : StepFault). IsAnswer d s c (Err x)) why (subst (IsAnswer d s c) is h))
