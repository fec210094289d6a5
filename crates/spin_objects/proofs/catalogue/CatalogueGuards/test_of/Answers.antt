use Rattle.std.proofs.Common.{◌-◌, ◌∙◌, length, ap, subst}
use Rattle.std.specs.Prelude.{Some}
use Rattle.std.proofs.lemmas.List.{length-map}
use Rattle.spin_objects.specs.There.{IsCheckThere}
use Rattle.spin_objects.specs.Units.{guards_of, GuardUnit, unit_of_check, native_guards}
use Rattle.spin_objects.proofs.NumberedItems.{numbered-reads}
use Rattle.spin_objects.proofs.MappedLists.{read_mapped}
use Rattle.spin_objects.proofs.NativeLemmas.{guard_known}
use Rattle.spin_objects.proofs.catalogue.CatalogueGuards.test_of.Goals as goal

pub check-requires : goal.check-requires
check-requires g c = record {
  first = c.requires.first;
  last = rw (← length-map (guards_of c.args.self.now) (λ (u : GuardUnit). u.test)) c.requires.last;
}

pub guard-requires : goal.guard-requires
guard-requires g c = subst (IsCheckThere (length c.args.self.now.natives.guards)) c.in-Native.is c.check.ensures.there

pub returns-in-Coded : goal.returns-in-Coded
returns-in-Coded g c =
    let natives = native_guards c.args.self.now.natives in
    let there = numbered-reads c.args.self.now.checks c.args.guard c.check.result.now c.check.ensures.check in
    read_mapped (unit_of_check natives) (λ (u : GuardUnit). u.test) c.args.self.now.checks (c.args.guard - 1) c.check.result.now there
    ∙ ap (λ b. Some (unit_of_check natives b).test) c.in-Coded.is

pub returns-in-Native : goal.returns-in-Native
returns-in-Native g c =
    let natives = native_guards c.args.self.now.natives in
    let there = numbered-reads c.args.self.now.checks c.args.guard c.check.result.now c.check.ensures.check in
    read_mapped (unit_of_check natives) (λ (u : GuardUnit). u.test) c.args.self.now.checks (c.args.guard - 1) c.check.result.now there
    ∙ ap (λ b. Some (unit_of_check natives b).test) c.in-Native.is
    ∙ ap (λ (u : GuardUnit). Some u.test) (guard_known c.args.self.now.natives.guards c.in-Native.native c.guard.result.now c.guard.ensures)
