use Rattle.std.proofs.Common.{refl}
use Rattle.std.proofs.lemmas.Result.{err_from_is_err_and}
use Rattle.spin_grammar.specs.Forms.{At, Before, After}
use Rattle.spin_grammar.proofs.ReadingParts.{leads_then, fails_then}
use Rattle.spin_grammar.proofs.work.read_spot.Goals as goal

pub returns-in_err-place-clause-gives : goal.returns-in_err-place-clause-gives
returns-in_err-place-clause-gives c =
    let p = err_from_is_err_and c.from_residual.result c.from_residual.ensures.1 in
    rw (p.1, p.2) c.in_err-place.ensures.opens

pub returns-in_err-number-in-Before-clause-gives : goal.returns-in_err-number-in-Before-clause-gives
returns-in_err-number-in-Before-clause-gives c =
    let p = err_from_is_err_and c.from_residual-in_err-number-in-Before.result c.from_residual-in_err-number-in-Before.ensures.1 in
    rw (p.1, p.2) (fails_then _ _ _ _ _ _ (rw c.in-Before.is at c.in_ok-place.ensures.opens) c.in_err-number-in-Before.ensures.gives)

pub returns-in_err-number-in-After-clause-gives : goal.returns-in_err-number-in-After-clause-gives
returns-in_err-number-in-After-clause-gives c =
    let p = err_from_is_err_and c.from_residual-in_err-number-in-After.result c.from_residual-in_err-number-in-After.ensures.1 in
    rw (p.1, p.2) (fails_then _ _ _ _ _ _ (rw c.in-After.is at c.in_ok-place.ensures.opens) c.in_err-number-in-After.ensures.gives)

pub returns-in-At-clause-gives : goal.returns-in-At-clause-gives
returns-in-At-clause-gives c = (At c.in-At.place, rw c.in-At.is at c.in_ok-place.ensures.opens, refl)

pub returns-in_ok-number-in-Before-clause-gives : goal.returns-in_ok-number-in-Before-clause-gives
returns-in_ok-number-in-Before-clause-gives c =
    (Before c.in_ok-number-in-Before.field-0, leads_then _ _ _ _ _ _ _ _ (rw c.in-Before.is at c.in_ok-place.ensures.opens) c.in_ok-number-in-Before.ensures.gives, refl)

pub returns-in_ok-number-in-After-clause-gives : goal.returns-in_ok-number-in-After-clause-gives
returns-in_ok-number-in-After-clause-gives c =
    (After c.in_ok-number-in-After.field-0, leads_then _ _ _ _ _ _ _ _ (rw c.in-After.is at c.in_ok-place.ensures.opens) c.in_ok-number-in-After.ensures.gives, refl)
