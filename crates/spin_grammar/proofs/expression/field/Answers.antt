use Rattle.std.proofs.lemmas.Result.{err_from_is_err_and}
use Rattle.spin_grammar.proofs.ReadingParts.{fails_head, fails_next}
use Rattle.spin_grammar.proofs.expression.field.Goals as goal

pub returns-in_err-arg-clause-gives : goal.returns-in_err-arg-clause-gives
returns-in_err-arg-clause-gives c =
    let p = err_from_is_err_and c.from_residual.result c.from_residual.ensures.1 in
    rw (p.1, p.2) (fails_head _ _ _ _ c.in_err-arg.ensures.gives)

pub returns-in_err-offset-clause-gives : goal.returns-in_err-offset-clause-gives
returns-in_err-offset-clause-gives c =
    let p = err_from_is_err_and c.from_residual-in_err-offset.result c.from_residual-in_err-offset.ensures.1 in
    rw (p.1, p.2) (fails_next _ _ _ _ _ _ c.in_ok-arg.ensures.gives (fails_head _ _ _ _ c.in_err-offset.ensures.gives))

pub returns-in_err-width-clause-gives : goal.returns-in_err-width-clause-gives
returns-in_err-width-clause-gives c =
    let p = err_from_is_err_and c.from_residual-in_err-width.result c.from_residual-in_err-width.ensures.1 in
    rw (p.1, p.2) (fails_next _ _ _ _ _ _ c.in_ok-arg.ensures.gives (fails_next _ _ _ _ _ _ c.in_ok-offset.ensures.gives c.in_err-width.ensures.gives))
