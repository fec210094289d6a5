use Rattle.std.proofs.lemmas.Result.{err_from_is_err_and}
use Rattle.spin_grammar.proofs.ReadingParts.{fails_head, fails_next}
use Rattle.spin_grammar.proofs.rule.read_rule.Goals as goal

pub returns-in_err-low-clause-gives : goal.returns-in_err-low-clause-gives
returns-in_err-low-clause-gives c =
    let p = err_from_is_err_and c.from_residual.result c.from_residual.ensures.1 in
    rw (p.1, p.2) (fails_head _ _ _ _ c.in_err-low.ensures.gives)

pub returns-in_err-high-clause-gives : goal.returns-in_err-high-clause-gives
returns-in_err-high-clause-gives c =
    let p = err_from_is_err_and c.from_residual-in_err-high.result c.from_residual-in_err-high.ensures.1 in
    rw (p.1, p.2) (fails_next _ _ _ _ _ _ c.in_ok-low.ensures.gives (fails_head _ _ _ _ c.in_err-high.ensures.gives))

pub returns-in_err-op-clause-gives : goal.returns-in_err-op-clause-gives
returns-in_err-op-clause-gives c =
    let p = err_from_is_err_and c.from_residual-in_err-op.result c.from_residual-in_err-op.ensures.1 in
    rw (p.1, p.2) (fails_next _ _ _ _ _ _ c.in_ok-low.ensures.gives (fails_next _ _ _ _ _ _ c.in_ok-high.ensures.gives (fails_head _ _ _ _ c.in_err-op.ensures.opens)))

pub returns-in_err-handler-clause-gives : goal.returns-in_err-handler-clause-gives
returns-in_err-handler-clause-gives c =
    let p = err_from_is_err_and c.from_residual-in_err-handler.result c.from_residual-in_err-handler.ensures.1 in
    rw (p.1, p.2) (fails_next _ _ _ _ _ _ c.in_ok-low.ensures.gives
    (fails_next _ _ _ _ _ _ c.in_ok-high.ensures.gives (fails_next _ _ _ _ _ _ c.in_ok-op.ensures.opens (fails_head _ _ _ _ c.in_err-handler.ensures.opens))))

pub returns-in_err-own_only-clause-gives : goal.returns-in_err-own_only-clause-gives
returns-in_err-own_only-clause-gives c =
    let p = err_from_is_err_and c.from_residual-in_err-own_only.result c.from_residual-in_err-own_only.ensures.1 in
    rw (p.1, p.2) (fails_next _ _ _ _ _ _ c.in_ok-low.ensures.gives (fails_next _ _ _ _ _ _ c.in_ok-high.ensures.gives
    (fails_next _ _ _ _ _ _ c.in_ok-op.ensures.opens (fails_next _ _ _ _ _ _ c.in_ok-handler.ensures.opens (fails_head _ _ _ _ c.in_err-own_only.ensures.opens)))))

pub returns-in_err-effect-clause-gives : goal.returns-in_err-effect-clause-gives
returns-in_err-effect-clause-gives c =
    let p = err_from_is_err_and c.from_residual-in_err-effect.result c.from_residual-in_err-effect.ensures.1 in
    rw (p.1, p.2) (fails_next _ _ _ _ _ _ c.in_ok-low.ensures.gives (fails_next _ _ _ _ _ _ c.in_ok-high.ensures.gives
    (fails_next _ _ _ _ _ _ c.in_ok-op.ensures.opens (fails_next _ _ _ _ _ _ c.in_ok-handler.ensures.opens (fails_next _ _ _ _ _ _ c.in_ok-own_only.ensures.opens c.in_err-effect.ensures.gives)))))
