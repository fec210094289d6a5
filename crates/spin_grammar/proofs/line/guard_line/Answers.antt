use Rattle.std.proofs.Common.{refl}
use Rattle.std.proofs.lemmas.Result.{err_from_is_err_and}
use Rattle.spin_grammar.specs.Lines.{Guard}
use Rattle.spin_grammar.proofs.ReadingParts.{leads_then, takes_then, fails_head, fails_next, fails_then}
use Rattle.spin_grammar.proofs.line.guard_line.Goals as goal

pub returns-in_err-number-clause-gives : goal.returns-in_err-number-clause-gives
returns-in_err-number-clause-gives c = λ version.
    let p = err_from_is_err_and c.from_residual.result c.from_residual.ensures.1 in
    rw (p.1, p.2) (fails_head _ _ _ _ c.in_err-number.ensures.gives)

pub returns-in_err-guard_body-clause-gives : goal.returns-in_err-guard_body-clause-gives
returns-in_err-guard_body-clause-gives c = λ version.
    let p = err_from_is_err_and c.from_residual-in_err-guard_body.result c.from_residual-in_err-guard_body.ensures.1 in
    rw (p.1, p.2) (fails_next _ _ _ _ _ _ c.in_ok-number.ensures.gives c.in_err-guard_body.ensures.opens)

pub returns-in_err-name-in-None-clause-gives : goal.returns-in_err-name-in-None-clause-gives
returns-in_err-name-in-None-clause-gives c = λ version.
    let p = err_from_is_err_and c.from_residual-in_err-name-in-None.result c.from_residual-in_err-name-in-None.ensures.1 in
    rw (p.1, p.2) (fails_next _ _ _ _ _ _ c.in_ok-number.ensures.gives (fails_then _ _ _ _ _ _ (rw c.in-None.is at c.in_ok-guard_body.ensures.opens) c.in_err-name-in-None.ensures.gives))

pub returns-in_err-test-in-Some-clause-gives : goal.returns-in_err-test-in-Some-clause-gives
returns-in_err-test-in-Some-clause-gives c = λ version.
    let p = err_from_is_err_and c.from_residual-in_err-test-in-Some.result c.from_residual-in_err-test-in-Some.ensures.1 in
    rw (p.1, p.2) (fails_next _ _ _ _ _ _ c.in_ok-number.ensures.gives (fails_then _ _ _ _ _ _ (rw c.in-Some.is at c.in_ok-guard_body.ensures.opens) c.in_err-test-in-Some.ensures.gives))

pub returns-in_ok-test-in-Some-clause-gives : goal.returns-in_ok-test-in-Some-clause-gives
returns-in_ok-test-in-Some-clause-gives c = λ version.
    let t = c.in_ok-test-in-Some.ensures.gives in (
      Guard c.in_ok-number.field-0 c.in-Some.sig t.0,
      refl,
      takes_then _ _ _ _ _ _ _ c.in_ok-number.ensures.gives (leads_then _ _ _ _ _ _ _ _ (rw c.in-Some.is at c.in_ok-guard_body.ensures.opens) t.1),
      (t.0, refl, t.2),
    )
