use Rattle.std.proofs.Common.{refl}
use Rattle.std.proofs.lemmas.Result.{err_from_is_err_and}
use Rattle.spin_grammar.specs.Lines.{Event}
use Rattle.spin_grammar.proofs.ReadingParts.{takes_then, fails_head, fails_next}
use Rattle.spin_grammar.proofs.line.event_line.Goals as goal

pub returns-in_err-number-clause-gives : goal.returns-in_err-number-clause-gives
returns-in_err-number-clause-gives c = λ version.
    let p = err_from_is_err_and c.from_residual.result c.from_residual.ensures.1 in
    rw (p.1, p.2) (fails_head _ _ _ _ c.in_err-number.ensures.gives)

pub returns-in_err-owner-clause-gives : goal.returns-in_err-owner-clause-gives
returns-in_err-owner-clause-gives c = λ version.
    let p = err_from_is_err_and c.from_residual-in_err-owner.result c.from_residual-in_err-owner.ensures.1 in
    rw (p.1, p.2) (fails_next _ _ _ _ _ _ c.in_ok-number.ensures.gives (fails_head _ _ _ _ c.in_err-owner.ensures.gives))

pub returns-in_err-sig-clause-gives : goal.returns-in_err-sig-clause-gives
returns-in_err-sig-clause-gives c = λ version.
    let p = err_from_is_err_and c.from_residual-in_err-sig.result c.from_residual-in_err-sig.ensures.1 in
    rw (p.1, p.2) (fails_next _ _ _ _ _ _ c.in_ok-number.ensures.gives (fails_next _ _ _ _ _ _ c.in_ok-owner.ensures.gives (fails_head _ _ _ _ c.in_err-sig.ensures.gives)))

pub returns-in_err-merge-clause-gives : goal.returns-in_err-merge-clause-gives
returns-in_err-merge-clause-gives c = λ version.
    let p = err_from_is_err_and c.from_residual-in_err-merge.result c.from_residual-in_err-merge.ensures.1 in
    rw (p.1, p.2) (fails_next _ _ _ _ _ _ c.in_ok-number.ensures.gives (fails_next _ _ _ _ _ _ c.in_ok-owner.ensures.gives (fails_next _ _ _ _ _ _ c.in_ok-sig.ensures.gives c.in_err-merge.ensures)))

pub returns-clause-gives : goal.returns-clause-gives
returns-clause-gives c = λ version.
    let m = c.in_ok-merge.ensures in (
      Event c.in_ok-number.field-0 c.in_ok-owner.field-0 c.in_ok-sig.sig m.0,
      refl,
      takes_then _ _ _ _ _ _ _ c.in_ok-number.ensures.gives (takes_then _ _ _ _ _ _ _ c.in_ok-owner.ensures.gives (takes_then _ _ _ _ _ _ _ c.in_ok-sig.ensures.gives m.1)),
      (m.0, refl, m.2),
    )
