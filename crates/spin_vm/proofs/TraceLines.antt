-- Each line of a trace that was read can stand behind those before it.
use Rattle.std.proofs.Common.{rules, ◌≡◌, ℕ, true, false, cond, Bool, List, [], ◌∷◌, ◌++◌, Option, Some, None, Result, Ok, Err, refl, sym, subst, append_assoc}
use Rattle.std.specs.Prelude.{slice_index, ◌==◌}
use Rattle.std.specs.List.{list_all}
use Rattle.spin_values.specs.First.{first_of}
use Rattle.spin_grammar.specs.Words.{words}
use Rattle.spin_script.specs.Language.{is_allowed}
use Rattle.spin_vm.specs.declared.cause.TraceCause.{TraceCause}
use Rattle.spin_vm.specs.declared.cause.TraceCause.TheVariants as cause
use Rattle.spin_vm.specs.declared.line.Statement.{Statement}
use Rattle.spin_vm.specs.declared.line.TraceLine.{TraceLine}
use Rattle.spin_vm.specs.Forms.{says, is_first}
use Rattle.spin_vm.specs.Traces.{TraceState, AreGood, trace_checks, with_line, line_if, after_said, after_first, after_words, after_line}

-- what can stand behind the trace so far can stand behind its lines
abbrev pub GoesOn : TraceState → Type 0
GoesOn s = (more : List TraceLine) → AreGood s.spaces more → AreGood [] (s.lines ++ more)

abbrev came_to : TraceState → Result TraceState TraceCause
came_to s = Ok s

same : (s t : TraceState) → came_to s ≡ came_to t → s ≡ t
same s t e = search (rules, e)

never : (c : TraceCause) (t : TraceState) → Err c ≡ Ok t → ⊥
never c t e = search (rules, e)

goes_said : (s t : TraceState) (number : ℕ) (what : Option Statement) → after_said s number what ≡ Ok t → GoesOn s → GoesOn t
goes_said s t number None e on = absurd (never _ t e)
goes_said s t number (Some what) e on = by_first (first_of (trace_checks s.spaces what)) refl e where
  by_first : (o : Option TraceCause) → first_of (trace_checks s.spaces what) ≡ o → line_if s number what o ≡ Ok t → GoesOn t
  by_first (Some c) is e = absurd (never c t e)
  by_first None is e = subst GoesOn (same (with_line s number what) t e) (λ more rest.
      subst (AreGood []) (sym (append_assoc s.lines (record { number = number; said = what } ∷ []) more)) (on (record { number = number; said = what } ∷ more) (is, rest)))

goes_first : (s t : TraceState) (is : Bool) → after_first s is ≡ Ok t → GoesOn s → GoesOn t
goes_first s t true e on = subst GoesOn (same (record s { begun = true }) t e) on
goes_first s t false e on = absurd (never _ t e)

goes_words : (s t : TraceState) (number : ℕ) (ws : List (List ℕ)) → after_words s number ws ≡ Ok t → GoesOn s → GoesOn t
goes_words s t number [] e on = subst GoesOn (same s t e) on
goes_words s t number (w ∷ ws) e on = by_sign (slice_index w 0 == 35) s.begun e where
  by_sign : (sign begun : Bool) → cond sign (Ok s) (cond begun (after_said s number (says (w ∷ ws))) (after_first s (is_first (w ∷ ws)))) ≡ Ok t → GoesOn t
  by_sign true begun e = subst GoesOn (same s t e) on
  by_sign false true e = goes_said s t number (says (w ∷ ws)) e on
  by_sign false false e = goes_first s t (is_first (w ∷ ws)) e on

-- after one line more
pub goes_line : (s t : TraceState) (number : ℕ) (line : List ℕ) → after_line s number line ≡ Ok t → GoesOn s → GoesOn t
goes_line s t number line e on = by_allowed (list_all is_allowed line) e where
  by_allowed : (b : Bool) → cond b (after_words s number (words line)) (Err cause.NotAscii) ≡ Ok t → GoesOn t
  by_allowed true e = goes_words s t number (words line) e on
  by_allowed false e = absurd (never _ t e)
