use Rattle.std.proofs.lemmas.Result.{err_from_is_err_and}
use Rattle.spin_grammar.proofs.ReadingParts.{fails_head, fails_next}
use Rattle.spin_grammar.proofs.test.has.Goals as goal

pub returns-in_err-arg-clause-gives : goal.returns-in_err-arg-clause-gives
returns-in_err-arg-clause-gives c =
    let p = err_from_is_err_and c.from_residual.result c.from_residual.ensures.1 in
    rw (p.1, p.2) (fails_head _ _ _ _ c.in_err-arg.ensures.gives)

pub returns-in_err-length-clause-gives : goal.returns-in_err-length-clause-gives
returns-in_err-length-clause-gives c =
    let p = err_from_is_err_and c.from_residual-in_err-length.result c.from_residual-in_err-length.ensures.1 in
    rw (p.1, p.2) (fails_next _ _ _ _ _ _ c.in_ok-arg.ensures.gives c.in_err-length.ensures.gives)
