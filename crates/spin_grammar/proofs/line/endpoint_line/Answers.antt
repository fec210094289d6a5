use Rattle.std.proofs.lemmas.Result.{err_from_is_err_and}
use Rattle.spin_grammar.proofs.ReadingParts.{fails_head, fails_next}
use Rattle.spin_grammar.proofs.line.endpoint_line.Goals as goal

pub returns-in_err-number-clause-gives : goal.returns-in_err-number-clause-gives
returns-in_err-number-clause-gives c = λ version.
    let p = err_from_is_err_and c.from_residual.result c.from_residual.ensures.1 in
    rw (p.1, p.2) (fails_head _ _ _ _ c.in_err-number.ensures.gives)

pub returns-in_err-name-clause-gives : goal.returns-in_err-name-clause-gives
returns-in_err-name-clause-gives c = λ version.
    let p = err_from_is_err_and c.from_residual-in_err-name.result c.from_residual-in_err-name.ensures.1 in
    rw (p.1, p.2) (fails_next _ _ _ _ _ _ c.in_ok-number.ensures.gives c.in_err-name.ensures.gives)
