use Rattle.std.proofs.Common.{◌+◌, ◌++◌, ◌∷◌, [], ℕ, List, length, sym, ap, ◌∙◌}
use Rattle.spin_code.specs.declared.act.ActStep.{ActStep}
use Rattle.spin_objects.specs.declared.unit.Body.TheVariants as body
use Rattle.spin_code.specs.Check.{act_check}
use Rattle.spin_grammar.specs.Lines as said
use Rattle.spin_objects.specs.Units.{handlers_of, guards_of}
use Rattle.spin_script.specs.States.{natives_seen}
use Rattle.spin_script.specs.Inner.Drafts.{so_far}
use Rattle.spin_script.proofs.LineCauses.{refused}
use Rattle.spin_script.proofs.AddedUnits.{next_fits, handler_added}
use Rattle.spin_script.proofs.units.add_handler.Goals as goal

pub returns-in_err-act-clause-adds : goal.returns-in_err-act-clause-adds
returns-in_err-act-clause-adds g c = λ number kept is.
    let old = c.args.catalogue.now in
    let n = natives_seen old.natives in
    let first = c.in_err-act.ensures.first n (handlers_of old) (guards_of old) kept (sym c.handlers.ensures) is in
    refused n (so_far c.args.draft.now old) number (said.Handler c.args.handler c.args.sig kept) c.from_residual.result _ c.in_err-act.field-0.0 first c.from_residual.ensures.1

pub keep_handler-requires-clause-fit : goal.keep_handler-requires-clause-fit
keep_handler-requires-clause-fit g c = next_fits (act_check c.in_ok-act.act c.args.sig) c.args.handler (length (handlers_of c.args.catalogue.now)) c.in_ok-act.ensures.right c.requires.range
    (c.in_ok-act.ensures.next ∙ ap (λ (x : ℕ). x + 1) c.handlers.ensures)

pub returns-clause-adds : goal.returns-clause-adds
returns-clause-adds g c = λ number kept is.
    let old = c.args.catalogue.now in
    let n = natives_seen old.natives in
    let first = c.in_ok-act.ensures.first n (handlers_of old) (guards_of old) kept (sym c.handlers.ensures) is in (
      first.0,
      handler_added n c.args.draft.now (handlers_of old) (handlers_of c.keep_handler.new.catalogue) (guards_of old)
          (guards_of c.keep_handler.new.catalogue) number c.args.handler c.args.sig c.in_ok-act.act kept c.in_ok-keep_handler.ensures.added c.in_ok-keep_handler.ensures.guards first.1,
    )

pub returns-clause-grows : goal.returns-clause-grows
returns-clause-grows g c = λ kept is.
    let old = c.args.catalogue.now in
    let first = c.in_ok-act.ensures.first (natives_seen old.natives) (handlers_of old) (guards_of old) kept (sym c.handlers.ensures) is in
    (c.in_ok-keep_handler.ensures.bodies ∙ ap (λ (steps : List ActStep). old.bodies ++ body.Coded c.args.sig (record { steps = steps }) ∷ []) first.1, c.in_ok-keep_handler.ensures.checks)
