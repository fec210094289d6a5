use Rattle.std.proofs.Common.{◌-◌, ◌∙◌, sym, ap}
use Rattle.std.specs.Prelude.{Some}
use Rattle.spin_code.specs.Truth.{holds_if}
use Rattle.spin_objects.specs.Units.{native_guards, guard_natives}
use Rattle.spin_objects.proofs.NumberedItems.{numbered-reads}
use Rattle.spin_objects.proofs.NativeLemmas.{native_test}
use Rattle.spin_objects.proofs.catalogue.CatalogueGuards.admits.Goals as goal

pub returns-in-None-clause-value : goal.returns-in-None-clause-value
returns-in-None-clause-value g c = c.holds.ensures.value ∙ sym (ap (λ t. holds_if t c.args.args.now) c.test_of.ensures)

pub returns-in-Some-clause-value : goal.returns-in-Some-clause-value
returns-in-Some-clause-value g c =
    let is_native = numbered-reads (guard_natives c.args.self.now) c.args.guard (Some c.in-Some.native)
    (c.native_guard.ensures.native ∙ ap Some c.in-Some.is) in
    c.admits.ensures
    ∙ sym (native_test (native_guards c.args.self.now.natives) c.args.self.now.checks (c.args.guard - 1) c.in-Some.native c.args.args.now is_native)
