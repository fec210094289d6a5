use Rattle.std.proofs.Common.{◌∙◌, sym}
use Rattle.std.proofs.lemmas.List.Folds.{list_all_at}
use Rattle.spin_objects.specs.Units.{guards_of}
use Rattle.spin_table.specs.Units.{is_fit_guard}
use Rattle.spin_table.proofs.AllTests.{passes_next, passes_all}
use Rattle.spin_table.proofs.build.are_fit.Goals as goal

pub returns-then-not-is_fit_guard : goal.returns-then-not-is_fit_guard
returns-then-not-is_fit_guard g c =
    let p = is_fit_guard (guards_of c.args.catalogue.now) c.args.event.now in
    sym (list_all_at p c.args.guards.now c.loop-guard.guard-index 0 c.loop-guard-test.true (sym c.is_fit_guard.ensures ∙ c.if-not-is_fit_guard.true))

pub loop-guard-preserved : goal.loop-guard-preserved
loop-guard-preserved g c =
    let p = is_fit_guard (guards_of c.args.catalogue.now) c.args.event.now in
    passes_next p c.args.guards.now c.loop-guard.guard-index 0 c.loop-guard-test.true (sym c.is_fit_guard.ensures ∙ c.if-not-is_fit_guard.false) c.loop-guard.invariant

pub returns : goal.returns
returns g c =
    let p = is_fit_guard (guards_of c.args.catalogue.now) c.args.event.now in
    sym (passes_all p c.args.guards.now c.loop-guard.guard-index c.loop-guard-test.false c.loop-guard.invariant)
