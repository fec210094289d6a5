use Rattle.std.proofs.Common.{◌≡◌, ℕ, ◌+◌, List, [], ◌∷◌, refl, arith}
use Rattle.std.specs.List.{flat_map}
use Rattle.std.proofs.lemmas.List.{append-nil}
use Rattle.std.proofs.lemmas.Result.{err_from_is_err_and}
use Rattle.spin_code.specs.declared.act.ActStep.{ActStep}
use Rattle.spin_code.specs.Size.{is_step_deep}
use Rattle.spin_grammar.specs.declared.keywords.StepWord.{StepWord}
use Rattle.spin_grammar.specs.Grammar.{Atom, Steps}
use Rattle.spin_grammar.specs.Inner.Keywords.{step_next}
use Rattle.spin_grammar.specs.Forms.{step_form, steps_form}
use Rattle.spin_grammar.specs.Inner.Reading.{Leads}
use Rattle.spin_grammar.proofs.ReadingParts.{leads_then, leads_over, fails_then}
use Rattle.spin_grammar.proofs.DepthLemmas.{so_far_none, so_far_kept, so_far_deep, so_far_fails}
use Rattle.spin_grammar.proofs.act.read_steps.Goals as goal

-- a step's first word, and the rest of it
whole : (w : StepWord) (s : ActStep) (atoms : List Atom) (old mid new : List (List ℕ)) → step_form s ≡ (step_next w).0 ∷ atoms → Leads (Steps ∷ []) ((step_next w).0 ∷ []) (step_next w).1 old mid
    → Leads (step_next w).1 atoms (Steps ∷ []) mid new → Leads (Steps ∷ []) (step_form s) (Steps ∷ []) old new
whole w s atoms old mid new e head rest = rw e (leads_then (Steps ∷ []) (step_next w).1 (Steps ∷ []) ((step_next w).0 ∷ []) atoms old mid new head rest)

-- all steps, and the line's end
ended : (done : List ActStep) (old cur new : List (List ℕ)) → cur ≡ [] → new ≡ [] → Leads (Steps ∷ []) (flat_map step_form done) (Steps ∷ []) old cur → Leads (Steps ∷ []) (steps_form done) [] old new
ended done old cur new e f t = rw (f, ← append-nil (steps_form done)) (leads_then (Steps ∷ []) (Steps ∷ []) [] (flat_map step_form done) [] old [] [] (rw e at t) (leads_over Steps refl))

pub loop-steps-init : goal.loop-steps-init
loop-steps-init c = record { falls = omega arith; so_far = (0, rw c.new-steps.ensures (so_far_none step_form is_step_deep (Steps ∷ []) _)) }

pub returns-in_err-word : goal.returns-in_err-word
returns-in_err-word c =
    let p = err_from_is_err_and c.from_residual.result c.from_residual.ensures.1 in
    rw (p.1, p.2) (so_far_fails step_form is_step_deep _ _ _ _ _ _ _ _ c.loop-steps.invariant.so_far.1 c.in_err-word.ensures)

pub returns-in_err-step : goal.returns-in_err-step
returns-in_err-step c =
    let p = err_from_is_err_and c.from_residual-in_err-step.result c.from_residual-in_err-step.ensures.1 in
    let head = rw c.in-Some.is at c.in_ok-word.ensures in
    rw (p.1, p.2) (so_far_fails step_form is_step_deep _ _ _ _ _ _ _ _ c.loop-steps.invariant.so_far.1 (fails_then _ _ _ _ _ _ head.0 c.in_err-step.ensures.gives))

pub loop-steps-preserved-in-Continue-branch-5 : goal.loop-steps-preserved-in-Continue-branch-5
loop-steps-preserved-in-Continue-branch-5 c =
    let head = rw c.in-Some.is at c.in_ok-word.ensures in
    let s = rw c.in-Some-2.is at c.in_ok-step.ensures.gives in
    let so_far = c.loop-steps.invariant.so_far in
    record {
      falls = omega (arith, c.in_ok-step.ensures.falls, head.1, c.loop-steps.invariant.falls);
      so_far = (so_far.0 + 1, rw c.in_ok-push-in-Some-2.ensures.ok (so_far_kept step_form is_step_deep _ _ _ _ _ _ _ s.0 _ _ _ so_far.1 (whole _ s.0 s.1 _ _ _ s.2 head.0 s.3) s.4));
    }

pub loop-steps-preserved : goal.loop-steps-preserved
loop-steps-preserved c =
    let head = rw c.in-Some.is at c.in_ok-word.ensures in
    let s = rw c.in-None.is at c.in_ok-step.ensures.gives in
    let so_far = c.loop-steps.invariant.so_far in
    record {
      falls = omega (arith, c.in_ok-step.ensures.falls, head.1, c.loop-steps.invariant.falls);
      so_far = (so_far.0 + 1, so_far_deep step_form is_step_deep _ _ _ _ _ _ s.0 _ _ _ so_far.1 (whole _ s.0 s.1 _ _ _ s.2 head.0 s.3) s.4);
    }

pub returns-then-deep : goal.returns-then-deep
returns-then-deep c =
    let over = rw c.in_default.is at c.in_ok-word.ensures in
    let s = c.loop-steps.invariant.so_far.1 in
    (s.done, ended s.done _ _ _ over.0 over.1 s.read, s.one c.if-deep.true)

pub returns : goal.returns
returns c =
    let over = rw c.in_default.is at c.in_ok-word.ensures in
    let s = c.loop-steps.invariant.so_far.1 in
    (s.done, ended s.done _ _ _ over.0 over.1 s.read, s.all c.if-deep.false)
