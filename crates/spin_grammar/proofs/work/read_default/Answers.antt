use Rattle.std.proofs.Common.{refl}
use Rattle.std.proofs.lemmas.Result.{err_from_is_err_and}
use Rattle.spin_grammar.specs.Forms.{Default}
use Rattle.spin_grammar.proofs.ReadingParts.{takes_then, fails_head, fails_next}
use Rattle.spin_grammar.proofs.work.read_default.Goals as goal

pub returns-in_err-event-clause-gives : goal.returns-in_err-event-clause-gives
returns-in_err-event-clause-gives c =
    let p = err_from_is_err_and c.from_residual.result c.from_residual.ensures.1 in
    rw (p.1, p.2) (fails_head _ _ _ _ c.in_err-event.ensures.gives)

pub returns-in_err-requester-clause-gives : goal.returns-in_err-requester-clause-gives
returns-in_err-requester-clause-gives c =
    let p = err_from_is_err_and c.from_residual-in_err-requester.result c.from_residual-in_err-requester.ensures.1 in
    rw (p.1, p.2) (fails_next _ _ _ _ _ _ c.in_ok-event.ensures.gives (fails_head _ _ _ _ c.in_err-requester.ensures.gives))

pub returns-in_err-command-clause-gives : goal.returns-in_err-command-clause-gives
returns-in_err-command-clause-gives c =
    let p = err_from_is_err_and c.from_residual-in_err-command.result c.from_residual-in_err-command.ensures.1 in
    rw (p.1, p.2) (fails_next _ _ _ _ _ _ c.in_ok-event.ensures.gives (fails_next _ _ _ _ _ _ c.in_ok-requester.ensures.gives c.in_err-command.ensures.gives))

pub returns-clause-gives : goal.returns-clause-gives
returns-clause-gives c = (
  Default c.in_ok-event.field-0 c.in_ok-requester.field-0 c.in_ok-command.field-0,
  _,
  refl,
  takes_then _ _ _ _ _ _ _ c.in_ok-event.ensures.gives (takes_then _ _ _ _ _ _ _ c.in_ok-requester.ensures.gives c.in_ok-command.ensures.gives),
  rw c.bare-command.ensures refl,
)
