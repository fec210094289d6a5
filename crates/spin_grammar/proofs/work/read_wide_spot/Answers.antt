use Rattle.std.proofs.Common.{refl}
use Rattle.std.proofs.lemmas.Result.{err_from_is_err_and}
use Rattle.spin_grammar.specs.Forms.{Among}
use Rattle.spin_grammar.proofs.ReadingParts.{takes_then, fails_head, fails_next}
use Rattle.spin_grammar.proofs.work.read_wide_spot.Goals as goal

pub returns-in_err-place-clause-gives : goal.returns-in_err-place-clause-gives
returns-in_err-place-clause-gives c =
    let p = err_from_is_err_and c.from_residual.result c.from_residual.ensures.1 in
    rw (p.1, p.2) (fails_head _ _ _ _ c.in_err-place.ensures.opens)

pub returns-in_err-exactly-clause-gives : goal.returns-in_err-exactly-clause-gives
returns-in_err-exactly-clause-gives c =
    let p = err_from_is_err_and c.from_residual-in_err-exactly.result c.from_residual-in_err-exactly.ensures.1 in
    rw (p.1, p.2) (fails_next _ _ _ _ _ _ c.in_ok-place.ensures.opens (fails_head _ _ _ _ c.in_err-exactly.ensures.opens))

pub returns-in_err-before-clause-gives : goal.returns-in_err-before-clause-gives
returns-in_err-before-clause-gives c =
    let p = err_from_is_err_and c.from_residual-in_err-before.result c.from_residual-in_err-before.ensures.1 in
    rw (p.1, p.2) (fails_next _ _ _ _ _ _ c.in_ok-place.ensures.opens (fails_next _ _ _ _ _ _ c.in_ok-exactly.ensures.opens (fails_head _ _ _ _ c.in_err-before.ensures.gives)))

pub returns-in_err-exactly-2-clause-gives : goal.returns-in_err-exactly-2-clause-gives
returns-in_err-exactly-2-clause-gives c =
    let p = err_from_is_err_and c.from_residual-in_err-exactly-2.result c.from_residual-in_err-exactly-2.ensures.1 in
    rw (p.1, p.2) (fails_next _ _ _ _ _ _ c.in_ok-place.ensures.opens
    (fails_next _ _ _ _ _ _ c.in_ok-exactly.ensures.opens (fails_next _ _ _ _ _ _ c.in_ok-before.ensures.gives.1 (fails_head _ _ _ _ c.in_err-exactly-2.ensures.opens))))

pub returns-in_err-after-clause-gives : goal.returns-in_err-after-clause-gives
returns-in_err-after-clause-gives c =
    let p = err_from_is_err_and c.from_residual-in_err-after.result c.from_residual-in_err-after.ensures.1 in
    rw (p.1, p.2) (fails_next _ _ _ _ _ _ c.in_ok-place.ensures.opens (fails_next _ _ _ _ _ _ c.in_ok-exactly.ensures.opens
    (fails_next _ _ _ _ _ _ c.in_ok-before.ensures.gives.1 (fails_next _ _ _ _ _ _ c.in_ok-exactly-2.ensures.opens c.in_err-after.ensures.gives))))

pub returns-clause-gives : goal.returns-clause-gives
returns-clause-gives c =
    let before = c.in_ok-before.ensures.gives in
    let after = c.in_ok-after.ensures.gives in (
      Among c.in_ok-place.place before.0 after.0,
      takes_then _ _ _ _ _ _ _ c.in_ok-place.ensures.opens
          (takes_then _ _ _ _ _ _ _ c.in_ok-exactly.ensures.opens (takes_then _ _ _ _ _ _ _ before.1 (takes_then _ _ _ _ _ _ _ c.in_ok-exactly-2.ensures.opens after.1))),
      rw (before.2, after.2) refl,
    )
