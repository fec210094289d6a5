use Rattle.std.proofs.Common.{◌-◌, arith}
use Rattle.std.proofs.lemmas.Result.{err_from_is_err_and}
use Rattle.spin_code.proofs.Sizes.{expr_depth_positive}
use Rattle.spin_grammar.proofs.ReadingParts.{fails_head, fails_next, fails_then, gives_made}
use Rattle.spin_grammar.proofs.JoinedExpressions.{expressions_read}
use Rattle.spin_grammar.proofs.expression.+read_expression.Goals as goal

pub returns-in_err-skip_expression-clause-gives : goal.returns-in_err-skip_expression-clause-gives
returns-in_err-skip_expression-clause-gives t c =
    let p = err_from_is_err_and c.from_residual.result c.from_residual.ensures.1 in
    rw (p.1, p.2) c.in_err-skip_expression.ensures.gives

pub returns-in_err-number-clause-gives : goal.returns-in_err-number-clause-gives
returns-in_err-number-clause-gives t c =
    let p = err_from_is_err_and c.from_residual-in_err-number.result c.from_residual-in_err-number.ensures.1 in
    rw (p.1, p.2) c.in_err-number.ensures.opens

pub returns-in_err-arg-in-Field-clause-gives : goal.returns-in_err-arg-in-Field-clause-gives
returns-in_err-arg-in-Field-clause-gives t c =
    let p = err_from_is_err_and c.from_residual-in_err-arg-in-Field.result c.from_residual-in_err-arg-in-Field.ensures.1 in
    rw (p.1, p.2) (fails_then _ _ _ _ _ _ (rw c.in-Field.is at c.in_ok-number.ensures.opens) c.in_err-arg-in-Field.ensures.gives)

pub returns-in_err-left-in-Binary-clause-gives : goal.returns-in_err-left-in-Binary-clause-gives
returns-in_err-left-in-Binary-clause-gives t c =
    let p = err_from_is_err_and c.from_residual-in_err-left-in-Binary.result c.from_residual-in_err-left-in-Binary.ensures.1 in
    rw (p.1, p.2) (fails_then _ _ _ _ _ _ (rw c.in-Binary.is at c.in_ok-number.ensures.opens) (fails_head _ _ _ _ c.in_err-left-in-Binary.ensures.gives))

pub returns-in_err-right-in-Binary-clause-gives : goal.returns-in_err-right-in-Binary-clause-gives
returns-in_err-right-in-Binary-clause-gives t c =
    let p = err_from_is_err_and c.from_residual-in_err-right-in-Binary.result c.from_residual-in_err-right-in-Binary.ensures.1 in
    rw (p.1, p.2) (fails_then _ _ _ _ _ _ (rw c.in-Binary.is at c.in_ok-number.ensures.opens) (fails_next _ _ _ _ _ _ c.in_ok-left-in-Binary.ensures.gives.1 c.in_err-right-in-Binary.ensures.gives))

pub returns-then-limit-eq0-clause-gives : goal.returns-then-limit-eq0-clause-gives
returns-then-limit-eq0-clause-gives t c =
    let g = c.in_ok-skip_expression.ensures.gives in
    (g.0, g.1, omega (arith, expr_depth_positive g.0))

pub returns-in_ok-right-in-Binary-clause-gives : goal.returns-in_ok-right-in-Binary-clause-gives
returns-in_ok-right-in-Binary-clause-gives t c =
    let l = c.in_ok-left-in-Binary.ensures.gives in
    let r = c.in_ok-right-in-Binary.ensures.gives in
    gives_made _ _ _ _ _ _ _ c.join.ensures
    (λ o j. expressions_read c.in-Binary.operator c.args.limit (c.args.limit - 1) _ _ _ l.0 r.0 _ _ _ _ (omega arith) (rw c.in-Binary.is at c.in_ok-number.ensures.opens) l.1 l.2 r.1 r.2 j)
