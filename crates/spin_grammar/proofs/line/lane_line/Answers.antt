use Rattle.std.proofs.Common.{refl}
use Rattle.std.proofs.lemmas.Result.{err_from_is_err_and}
use Rattle.spin_grammar.specs.Lines.{Lane}
use Rattle.spin_grammar.proofs.ReadingParts.{takes_then, fails_head, fails_next}
use Rattle.spin_grammar.proofs.line.lane_line.Goals as goal

pub returns-in_err-lane-clause-gives : goal.returns-in_err-lane-clause-gives
returns-in_err-lane-clause-gives c =
    let p = err_from_is_err_and c.from_residual.result c.from_residual.ensures.1 in
    rw (p.1, p.2) (fails_head _ _ _ _ c.in_err-lane.ensures.gives)

pub returns-in_err-work-clause-gives : goal.returns-in_err-work-clause-gives
returns-in_err-work-clause-gives c =
    let p = err_from_is_err_and c.from_residual-in_err-work.result c.from_residual-in_err-work.ensures.1 in
    rw (p.1, p.2) (fails_next _ _ _ _ _ _ c.in_ok-lane.ensures.gives c.in_err-work.ensures.gives)

pub returns-clause-gives : goal.returns-clause-gives
returns-clause-gives c =
    let t = c.in_ok-work.ensures.gives in
    (Lane c.in_ok-lane.field-0 t.0, refl, takes_then _ _ _ _ _ _ _ c.in_ok-lane.ensures.gives t.1, (t.0, refl, t.2))
