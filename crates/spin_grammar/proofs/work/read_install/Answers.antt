use Rattle.std.proofs.Common.{[], ◌∷◌, ◌++◌, refl}
use Rattle.std.proofs.lemmas.Result.{err_from_is_err_and}
use Rattle.spin_grammar.specs.Grammar.{Number, Mode, spot_wants}
use Rattle.spin_grammar.specs.Forms.{Install}
use Rattle.spin_grammar.proofs.ReadingParts.{takes_then, leads_with, fails_then, fails_with, fails_head, fails_next}
use Rattle.spin_grammar.proofs.work.read_install.Goals as goal

pub returns-in_err-event-clause-gives : goal.returns-in_err-event-clause-gives
returns-in_err-event-clause-gives c =
    let p = err_from_is_err_and c.from_residual.result c.from_residual.ensures.1 in
    rw (p.1, p.2) (fails_head _ _ _ _ c.in_err-event.ensures.gives)

pub returns-in_err-requester-clause-gives : goal.returns-in_err-requester-clause-gives
returns-in_err-requester-clause-gives c =
    let p = err_from_is_err_and c.from_residual-in_err-requester.result c.from_residual-in_err-requester.ensures.1 in
    rw (p.1, p.2) (fails_next _ _ _ _ _ _ c.in_ok-event.ensures.gives (fails_head _ _ _ _ c.in_err-requester.ensures.gives))

pub returns-in_err-handler-clause-gives : goal.returns-in_err-handler-clause-gives
returns-in_err-handler-clause-gives c =
    let p = err_from_is_err_and c.from_residual-in_err-handler.result c.from_residual-in_err-handler.ensures.1 in
    rw (p.1, p.2) (fails_next _ _ _ _ _ _ c.in_ok-event.ensures.gives (fails_next _ _ _ _ _ _ c.in_ok-requester.ensures.gives (fails_head _ _ _ _ c.in_err-handler.ensures.gives)))

pub returns-in_err-guard-clause-gives : goal.returns-in_err-guard-clause-gives
returns-in_err-guard-clause-gives c =
    let p = err_from_is_err_and c.from_residual-in_err-guard.result c.from_residual-in_err-guard.ensures.1 in
    rw (p.1, p.2) (fails_next _ _ _ _ _ _ c.in_ok-event.ensures.gives
    (fails_next _ _ _ _ _ _ c.in_ok-requester.ensures.gives (fails_next _ _ _ _ _ _ c.in_ok-handler.ensures.gives (fails_head _ _ _ _ c.in_err-guard.ensures.gives))))

pub returns-in_err-around-clause-gives : goal.returns-in_err-around-clause-gives
returns-in_err-around-clause-gives c =
    let p = err_from_is_err_and c.from_residual-in_err-around.result c.from_residual-in_err-around.ensures.1 in
    let four = takes_then _ _ _ _ _ _ _ c.in_ok-event.ensures.gives
    (takes_then _ _ _ _ _ _ _ c.in_ok-requester.ensures.gives (takes_then _ _ _ _ _ _ _ c.in_ok-handler.ensures.gives c.in_ok-guard.ensures.gives)) in
    rw (p.1, p.2)
    (fails_then _ (spot_wants c.args.version ++ Mode ∷ []) _ _ _ _ (leads_with (Number 0 63 ∷ Number 0 255 ∷ Number 0 1023 ∷ Number 0 1023 ∷ []) [] (spot_wants c.args.version ++ Mode ∷ []) _ _ _ four)
    (fails_with (spot_wants c.args.version) (Mode ∷ []) _ _ c.in_err-around.ensures.gives))

pub returns-in_err-mode-clause-gives : goal.returns-in_err-mode-clause-gives
returns-in_err-mode-clause-gives c =
    let p = err_from_is_err_and c.from_residual-in_err-mode.result c.from_residual-in_err-mode.ensures.1 in
    let four = takes_then _ _ _ _ _ _ _ c.in_ok-event.ensures.gives
    (takes_then _ _ _ _ _ _ _ c.in_ok-requester.ensures.gives (takes_then _ _ _ _ _ _ _ c.in_ok-handler.ensures.gives c.in_ok-guard.ensures.gives)) in
    rw (p.1, p.2)
    (fails_then _ (spot_wants c.args.version ++ Mode ∷ []) _ _ _ _ (leads_with (Number 0 63 ∷ Number 0 255 ∷ Number 0 1023 ∷ Number 0 1023 ∷ []) [] (spot_wants c.args.version ++ Mode ∷ []) _ _ _ four)
    (fails_then (spot_wants c.args.version ++ Mode ∷ []) (Mode ∷ []) _ _ _ _ (leads_with (spot_wants c.args.version) [] (Mode ∷ []) _ _ _ c.in_ok-around.ensures.gives.1) c.in_err-mode.ensures.opens))

pub returns-clause-gives : goal.returns-clause-gives
returns-clause-gives c =
    let four = takes_then _ _ _ _ _ _ _ c.in_ok-event.ensures.gives
    (takes_then _ _ _ _ _ _ _ c.in_ok-requester.ensures.gives (takes_then _ _ _ _ _ _ _ c.in_ok-handler.ensures.gives c.in_ok-guard.ensures.gives)) in
    let around = c.in_ok-around.ensures.gives in (
      Install c.in_ok-event.field-0 c.in_ok-requester.field-0 c.in_ok-handler.field-0 c.in_ok-guard.field-0 around.0 c.in_ok-mode.mode,
      _,
      refl,
      takes_then (Number 0 63 ∷ Number 0 255 ∷ Number 0 1023 ∷ Number 0 1023 ∷ []) (spot_wants c.args.version ++ Mode ∷ []) _ _ _ _ _ four
          (takes_then (spot_wants c.args.version) (Mode ∷ []) _ _ _ _ _ around.1 c.in_ok-mode.ensures.opens),
      rw (c.bare.ensures, around.2) refl,
    )
