use Rattle.std.proofs.Common.{◌+◌, ◌++◌, ◌∷◌, [], ℕ, length, sym, ap, ◌∙◌}
use Rattle.spin_code.specs.declared.test.Test.{Test}
use Rattle.spin_objects.specs.declared.unit.Check.TheVariants as check
use Rattle.spin_code.specs.Check.{test_check}
use Rattle.spin_grammar.specs.Lines as said
use Rattle.spin_objects.specs.Units.{handlers_of, guards_of}
use Rattle.spin_script.specs.States.{natives_seen}
use Rattle.spin_script.specs.Inner.Drafts.{so_far}
use Rattle.spin_script.proofs.LineCauses.{refused}
use Rattle.spin_script.proofs.AddedUnits.{next_fits, guard_added}
use Rattle.spin_script.proofs.units.add_guard.Goals as goal

pub returns-in_err-test-clause-adds : goal.returns-in_err-test-clause-adds
returns-in_err-test-clause-adds g c = λ number kept is.
    let old = c.args.catalogue.now in
    let n = natives_seen old.natives in
    let first = c.in_err-test.ensures.first n (so_far c.args.draft.now old) kept (sym c.guard_count.ensures) is in
    refused n (so_far c.args.draft.now old) number (said.Guard c.args.guard c.args.sig kept) c.from_residual.result _ c.in_err-test.field-0.0 first c.from_residual.ensures.1

pub keep_guard-requires-clause-fit : goal.keep_guard-requires-clause-fit
keep_guard-requires-clause-fit g c = next_fits (test_check c.in_ok-test.test c.args.sig) c.args.guard (length (guards_of c.args.catalogue.now)) c.in_ok-test.ensures.right c.requires.range
    (c.in_ok-test.ensures.next ∙ ap (λ (x : ℕ). x + 1) c.guard_count.ensures)

pub returns-clause-adds : goal.returns-clause-adds
returns-clause-adds g c = λ number kept is.
    let old = c.args.catalogue.now in
    let n = natives_seen old.natives in
    let first = c.in_ok-test.ensures.first n (so_far c.args.draft.now old) kept (sym c.guard_count.ensures) is in (
      first.0,
      guard_added n c.args.draft.now (handlers_of old) (handlers_of c.keep_guard.new.catalogue) (guards_of old)
          (guards_of c.keep_guard.new.catalogue) number c.args.guard c.args.sig c.in_ok-test.test kept c.in_ok-keep_guard.ensures.added c.in_ok-keep_guard.ensures.handlers first.1,
    )

pub returns-clause-grows : goal.returns-clause-grows
returns-clause-grows g c = λ kept is.
    let old = c.args.catalogue.now in
    let first = c.in_ok-test.ensures.first (natives_seen old.natives) (so_far c.args.draft.now old) kept (sym c.guard_count.ensures) is in
    (c.in_ok-keep_guard.ensures.bodies, c.in_ok-keep_guard.ensures.checks ∙ ap (λ (t : Test). old.checks ++ check.Coded c.args.sig t ∷ []) first.1)
