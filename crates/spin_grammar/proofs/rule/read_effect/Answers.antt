use Rattle.std.proofs.lemmas.Result.{err_from_is_err_and}
use Rattle.spin_grammar.proofs.ReadingParts.{fails_head, fails_next, fails_then}
use Rattle.spin_grammar.proofs.rule.read_effect.Goals as goal

pub returns-in_err-effect_word-clause-gives : goal.returns-in_err-effect_word-clause-gives
returns-in_err-effect_word-clause-gives c =
    let p = err_from_is_err_and c.from_residual.result c.from_residual.ensures.1 in
    rw (p.1, p.2) c.in_err-effect_word.ensures.opens

pub returns-in_err-number_from-in-Quota-clause-gives : goal.returns-in_err-number_from-in-Quota-clause-gives
returns-in_err-number_from-in-Quota-clause-gives c =
    let p = err_from_is_err_and c.from_residual-in_err-number_from-in-Quota.result c.from_residual-in_err-number_from-in-Quota.ensures.1 in
    rw (p.1, p.2) (fails_then _ _ _ _ _ _ (rw c.in-Quota.is at c.in_ok-effect_word.ensures.opens) c.in_err-number_from-in-Quota.ensures.gives)

pub returns-in_err-read_guards-in-Impose-clause-gives : goal.returns-in_err-read_guards-in-Impose-clause-gives
returns-in_err-read_guards-in-Impose-clause-gives c =
    let p = err_from_is_err_and c.from_residual-in_err-read_guards-in-Impose.result c.from_residual-in_err-read_guards-in-Impose.ensures.1 in
    rw (p.1, p.2) (fails_then _ _ _ _ _ _ (rw c.in-Impose.is at c.in_ok-effect_word.ensures.opens) c.in_err-read_guards-in-Impose.ensures.gives)

pub returns-in_err-guards-in-Force-clause-gives : goal.returns-in_err-guards-in-Force-clause-gives
returns-in_err-guards-in-Force-clause-gives c =
    let p = err_from_is_err_and c.from_residual-in_err-guards-in-Force.result c.from_residual-in_err-guards-in-Force.ensures.1 in
    rw (p.1, p.2) (fails_then _ _ _ _ _ _ (rw c.in-Force.is at c.in_ok-effect_word.ensures.opens) (fails_head _ _ _ _ c.in_err-guards-in-Force.ensures.gives))

pub returns-in_err-place-in-Force-clause-gives : goal.returns-in_err-place-in-Force-clause-gives
returns-in_err-place-in-Force-clause-gives c =
    let p = err_from_is_err_and c.from_residual-in_err-place-in-Force.result c.from_residual-in_err-place-in-Force.ensures.1 in
    rw (p.1, p.2) (fails_then _ _ _ _ _ _ (rw c.in-Force.is at c.in_ok-effect_word.ensures.opens)
    (fails_next _ _ _ _ _ _ c.in_ok-guards-in-Force.ensures.gives (fails_head _ _ _ _ c.in_err-place-in-Force.ensures.opens)))

pub returns-in_err-apart-in-Force-clause-gives : goal.returns-in_err-apart-in-Force-clause-gives
returns-in_err-apart-in-Force-clause-gives c =
    let p = err_from_is_err_and c.from_residual-in_err-apart-in-Force.result c.from_residual-in_err-apart-in-Force.ensures.1 in
    rw (p.1, p.2) (fails_then _ _ _ _ _ _ (rw c.in-Force.is at c.in_ok-effect_word.ensures.opens)
    (fails_next _ _ _ _ _ _ c.in_ok-guards-in-Force.ensures.gives (fails_next _ _ _ _ _ _ c.in_ok-place-in-Force.ensures.opens c.in_err-apart-in-Force.ensures.opens)))
