use Rattle.std.proofs.Common.{refl}
use Rattle.std.proofs.lemmas.Result.{err_from_is_err_and}
use Rattle.spin_grammar.specs.Lines.{Handler}
use Rattle.spin_grammar.proofs.ReadingParts.{leads_then, takes_then, fails_head, fails_next, fails_then}
use Rattle.spin_grammar.proofs.line.handler_line.Goals as goal

pub returns-in_err-number-clause-gives : goal.returns-in_err-number-clause-gives
returns-in_err-number-clause-gives c = λ version.
    let p = err_from_is_err_and c.from_residual.result c.from_residual.ensures.1 in
    rw (p.1, p.2) (fails_head _ _ _ _ c.in_err-number.ensures.gives)

pub returns-in_err-handler_body-clause-gives : goal.returns-in_err-handler_body-clause-gives
returns-in_err-handler_body-clause-gives c = λ version.
    let p = err_from_is_err_and c.from_residual-in_err-handler_body.result c.from_residual-in_err-handler_body.ensures.1 in
    rw (p.1, p.2) (fails_next _ _ _ _ _ _ c.in_ok-number.ensures.gives c.in_err-handler_body.ensures.opens)

pub returns-in_err-name-in-None-clause-gives : goal.returns-in_err-name-in-None-clause-gives
returns-in_err-name-in-None-clause-gives c = λ version.
    let p = err_from_is_err_and c.from_residual-in_err-name-in-None.result c.from_residual-in_err-name-in-None.ensures.1 in
    rw (p.1, p.2) (fails_next _ _ _ _ _ _ c.in_ok-number.ensures.gives (fails_then _ _ _ _ _ _ (rw c.in-None.is at c.in_ok-handler_body.ensures.opens) c.in_err-name-in-None.ensures.gives))

pub returns-in_err-steps-in-Some-clause-gives : goal.returns-in_err-steps-in-Some-clause-gives
returns-in_err-steps-in-Some-clause-gives c = λ version.
    let p = err_from_is_err_and c.from_residual-in_err-steps-in-Some.result c.from_residual-in_err-steps-in-Some.ensures.1 in
    rw (p.1, p.2) (fails_next _ _ _ _ _ _ c.in_ok-number.ensures.gives (fails_then _ _ _ _ _ _ (rw c.in-Some.is at c.in_ok-handler_body.ensures.opens) c.in_err-steps-in-Some.ensures))

pub returns-in_ok-steps-in-Some-clause-gives : goal.returns-in_ok-steps-in-Some-clause-gives
returns-in_ok-steps-in-Some-clause-gives c = λ version.
    let s = c.in_ok-steps-in-Some.ensures in (
      Handler c.in_ok-number.field-0 c.in-Some.sig s.0,
      refl,
      takes_then _ _ _ _ _ _ _ c.in_ok-number.ensures.gives (leads_then _ _ _ _ _ _ _ _ (rw c.in-Some.is at c.in_ok-handler_body.ensures.opens) s.1),
      (s.0, refl, s.2),
    )
