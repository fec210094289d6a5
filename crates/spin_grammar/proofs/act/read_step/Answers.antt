use Rattle.std.proofs.Common.{ℕ, List, [], ◌∷◌, codes, refl, ap}
use Rattle.std.specs.List.{flat_map}
use Rattle.std.proofs.lemmas.Result.{err_from_is_err_and}
use Rattle.spin_code.specs.declared.expr.Expr.{Expr}
use Rattle.spin_code.specs.declared.act.Part.{Part}
use Rattle.spin_code.specs.declared.act.ActStep.TheVariants.{Set, Send, Result, Up, Layer}
use Rattle.spin_code.specs.Size.{expr_depth}
use Rattle.spin_grammar.specs.Grammar as grammar
use Rattle.spin_grammar.specs.Grammar.{Fixed, Numeral, Steps}
use Rattle.spin_grammar.specs.Forms.{part_form}
use Rattle.spin_grammar.proofs.ReadingParts.{leads_then, leads_with, takes_then, fails_head, fails_next, fails_then}
use Rattle.spin_grammar.proofs.DepthLemmas.{deep_by, flat_by}
use Rattle.spin_grammar.proofs.act.read_step.Goals as goal

pub returns-in_err-arg-in-Set-clause-gives : goal.returns-in_err-arg-in-Set-clause-gives
returns-in_err-arg-in-Set-clause-gives c =
    let p = err_from_is_err_and c.from_residual.result c.from_residual.ensures.1 in
    rw (p.1, p.2, c.in-Set.is) (fails_head _ _ _ _ c.in_err-arg-in-Set.ensures.gives)

pub returns-in_err-read_expression-in-Set-clause-gives : goal.returns-in_err-read_expression-in-Set-clause-gives
returns-in_err-read_expression-in-Set-clause-gives c =
    let p = err_from_is_err_and c.from_residual-in_err-read_expression-in-Set.result c.from_residual-in_err-read_expression-in-Set.ensures.1 in
    rw (p.1, p.2, c.in-Set.is) (fails_next _ _ _ _ _ _ c.in_ok-arg-in-Set.ensures.gives (fails_head _ _ _ _ c.in_err-read_expression-in-Set.ensures.gives))

pub returns-in_err-endpoint-in-Send-clause-gives : goal.returns-in_err-endpoint-in-Send-clause-gives
returns-in_err-endpoint-in-Send-clause-gives c =
    let p = err_from_is_err_and c.from_residual-in_err-endpoint-in-Send.result c.from_residual-in_err-endpoint-in-Send.ensures.1 in
    rw (p.1, p.2, c.in-Send.is) (fails_head _ _ _ _ c.in_err-endpoint-in-Send.ensures.gives)

pub returns-in_err-arg-in-Send-clause-gives : goal.returns-in_err-arg-in-Send-clause-gives
returns-in_err-arg-in-Send-clause-gives c =
    let p = err_from_is_err_and c.from_residual-in_err-arg-in-Send.result c.from_residual-in_err-arg-in-Send.ensures.1 in
    rw (p.1, p.2, c.in-Send.is) (fails_next _ _ _ _ _ _ c.in_ok-endpoint-in-Send.ensures.gives (fails_head _ _ _ _ c.in_err-arg-in-Send.ensures.gives))

pub returns-in_err-from-in-Send-clause-gives : goal.returns-in_err-from-in-Send-clause-gives
returns-in_err-from-in-Send-clause-gives c =
    let p = err_from_is_err_and c.from_residual-in_err-from-in-Send.result c.from_residual-in_err-from-in-Send.ensures.1 in
    rw (p.1, p.2, c.in-Send.is)
    (fails_next _ _ _ _ _ _ c.in_ok-endpoint-in-Send.ensures.gives (fails_next _ _ _ _ _ _ c.in_ok-arg-in-Send.ensures.gives (fails_head _ _ _ _ c.in_err-from-in-Send.ensures.gives)))

pub returns-in_err-read_expression-in-Result-clause-gives : goal.returns-in_err-read_expression-in-Result-clause-gives
returns-in_err-read_expression-in-Result-clause-gives c =
    let p = err_from_is_err_and c.from_residual-in_err-read_expression-in-Result.result c.from_residual-in_err-read_expression-in-Result.ensures.1 in
    rw (p.1, p.2, c.in-Result.is) (fails_head _ _ _ _ c.in_err-read_expression-in-Result.ensures.gives)

pub returns-in_err-event-in-Up-clause-gives : goal.returns-in_err-event-in-Up-clause-gives
returns-in_err-event-in-Up-clause-gives c =
    let p = err_from_is_err_and c.from_residual-in_err-event-in-Up.result c.from_residual-in_err-event-in-Up.ensures.1 in
    rw (p.1, p.2, c.in-Up.is) (fails_head _ _ _ _ c.in_err-event-in-Up.ensures.gives)

pub returns-in_err-count-in-Up-clause-gives : goal.returns-in_err-count-in-Up-clause-gives
returns-in_err-count-in-Up-clause-gives c =
    let p = err_from_is_err_and c.from_residual-in_err-count-in-Up.result c.from_residual-in_err-count-in-Up.ensures.1 in
    rw (p.1, p.2, c.in-Up.is) (fails_next _ _ _ _ _ _ c.in_ok-event-in-Up.ensures.gives (fails_head _ _ _ _ (c.in_err-count-in-Up.ensures.opens grammar.Part)))

pub returns-in_err-read_parts-in-Up-clause-gives : goal.returns-in_err-read_parts-in-Up-clause-gives
returns-in_err-read_parts-in-Up-clause-gives c =
    let p = err_from_is_err_and c.from_residual-in_err-read_parts-in-Up.result c.from_residual-in_err-read_parts-in-Up.ensures.1 in
    rw (p.1, p.2, c.in-Up.is)
    (fails_next _ _ _ _ _ _ c.in_ok-event-in-Up.ensures.gives (fails_head _ _ _ _ (fails_then _ _ _ _ _ _ (c.in_ok-count-in-Up.ensures.opens grammar.Part) c.in_err-read_parts-in-Up.ensures.gives)))

pub returns-in_err-kind-in-Layer-clause-gives : goal.returns-in_err-kind-in-Layer-clause-gives
returns-in_err-kind-in-Layer-clause-gives c =
    let p = err_from_is_err_and c.from_residual-in_err-kind-in-Layer.result c.from_residual-in_err-kind-in-Layer.ensures.1 in
    rw (p.1, p.2, c.in-Layer.is) (fails_head _ _ _ _ c.in_err-kind-in-Layer.ensures.opens)

pub returns-in_err-event-in-Layer-clause-gives : goal.returns-in_err-event-in-Layer-clause-gives
returns-in_err-event-in-Layer-clause-gives c =
    let p = err_from_is_err_and c.from_residual-in_err-event-in-Layer.result c.from_residual-in_err-event-in-Layer.ensures.1 in
    rw (p.1, p.2, c.in-Layer.is) (fails_next _ _ _ _ _ _ c.in_ok-kind-in-Layer.ensures.opens (fails_head _ _ _ _ c.in_err-event-in-Layer.ensures.gives))

pub returns-in-None-clause-gives : goal.returns-in-None-clause-gives
returns-in-None-clause-gives c =
    let e = rw c.in-None.is at c.in_ok-read_expression-in-Set.ensures.gives in
    rw c.in-Set.is (Set c.in_ok-arg-in-Set.field-0 e.0, _, refl, leads_with _ [] (Steps ∷ []) _ _ _ (takes_then _ _ _ _ _ _ _ c.in_ok-arg-in-Set.ensures.gives e.1), deep_by expr_depth e.0 e.2)

pub returns-in-Some-clause-gives : goal.returns-in-Some-clause-gives
returns-in-Some-clause-gives c =
    let e = rw c.in-Some.is at c.in_ok-read_expression-in-Set.ensures.gives in
    let arg = c.in_ok-arg-in-Set.field-0 in
    rw c.in-Set.is
    (Set arg e.0, _, refl, leads_with _ [] (Steps ∷ []) _ _ _ (takes_then _ _ _ _ _ _ _ c.in_ok-arg-in-Set.ensures.gives e.1), (ap (λ (x : Expr). Set arg x) e.2.0, flat_by expr_depth e.0 e.2.1))

pub returns-in_ok-from-in-Send-clause-gives : goal.returns-in_ok-from-in-Send-clause-gives
returns-in_ok-from-in-Send-clause-gives c =
    rw c.in-Send.is (
      Send c.in_ok-endpoint-in-Send.field-0 c.in_ok-arg-in-Send.field-0 c.in_ok-from-in-Send.field-0,
      _,
      refl,
      leads_with
          _ [] (Steps ∷ []) _ _ _ (takes_then _ _ _ _ _ _ _ c.in_ok-endpoint-in-Send.ensures.gives (takes_then _ _ _ _ _ _ _ c.in_ok-arg-in-Send.ensures.gives c.in_ok-from-in-Send.ensures.gives)),
      (refl, refl),
    )

pub returns-in-None-2-clause-gives : goal.returns-in-None-2-clause-gives
returns-in-None-2-clause-gives c =
    let e = rw c.in-None-2.is at c.in_ok-read_expression-in-Result.ensures.gives in
    rw c.in-Result.is (Result e.0, _, refl, leads_with _ [] (Steps ∷ []) _ _ _ e.1, deep_by expr_depth e.0 e.2)

pub returns-in-Some-2-clause-gives : goal.returns-in-Some-2-clause-gives
returns-in-Some-2-clause-gives c =
    let e = rw c.in-Some-2.is at c.in_ok-read_expression-in-Result.ensures.gives in
    rw c.in-Result.is (Result e.0, _, refl, leads_with _ [] (Steps ∷ []) _ _ _ e.1, (ap (λ (x : Expr). Result x) e.2.0, flat_by expr_depth e.0 e.2.1))

pub returns-in-None-3-clause-gives : goal.returns-in-None-3-clause-gives
returns-in-None-3-clause-gives c =
    let ps = rw c.in-None-3.is at c.in_ok-read_parts-in-Up.ensures.gives in
    let counted = leads_then _ _ _ _ _ _ _ _ (c.in_ok-count-in-Up.ensures.opens grammar.Part) ps.2 in
    rw c.in-Up.is (
      Up c.in_ok-event-in-Up.field-0 ps.0,
      _,
      ap (λ (n : ℕ). Fixed (codes "up") ∷ Numeral c.in_ok-event-in-Up.field-0 ∷ Numeral n ∷ flat_map part_form ps.0) ps.1,
      leads_with _ [] (Steps ∷ []) _ _ _ (takes_then _ _ _ _ _ _ _ c.in_ok-event-in-Up.ensures.gives counted),
      ps.3,
    )

pub returns-in-Some-3-clause-gives : goal.returns-in-Some-3-clause-gives
returns-in-Some-3-clause-gives c =
    let event = c.in_ok-event-in-Up.field-0 in
    let ps = rw c.in-Some-3.is at c.in_ok-read_parts-in-Up.ensures.gives in
    let counted = leads_then _ _ _ _ _ _ _ _ (c.in_ok-count-in-Up.ensures.opens grammar.Part) ps.2 in
    rw c.in-Up.is (
      Up event ps.0,
      _,
      ap (λ (n : ℕ). Fixed (codes "up") ∷ Numeral event ∷ Numeral n ∷ flat_map part_form ps.0) ps.1,
      leads_with _ [] (Steps ∷ []) _ _ _ (takes_then _ _ _ _ _ _ _ c.in_ok-event-in-Up.ensures.gives counted),
      (ap (λ (x : List Part). Up event x) ps.3.0, ps.3.1),
    )

pub returns-in_ok-event-in-Layer-clause-gives : goal.returns-in_ok-event-in-Layer-clause-gives
returns-in_ok-event-in-Layer-clause-gives c =
    rw c.in-Layer.is (
      Layer c.in_ok-kind-in-Layer.kind c.in_ok-event-in-Layer.field-0,
      _,
      refl,
      leads_with _ [] (Steps ∷ []) _ _ _ (takes_then _ _ _ _ _ _ _ c.in_ok-kind-in-Layer.ensures.opens c.in_ok-event-in-Layer.ensures.gives),
      (refl, refl),
    )
