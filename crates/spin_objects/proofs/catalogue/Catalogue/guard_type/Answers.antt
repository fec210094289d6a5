use Rattle.std.proofs.Common.{◌≡◌, ◌∙◌, length, ap, sym, subst}
use Rattle.spin_objects.specs.There.{IsCheckThere}
use Rattle.spin_objects.specs.Units.{GuardUnit, unit_of_check, native_guards}
use Rattle.spin_objects.proofs.NumberedItems.{numbered_and}
use Rattle.spin_objects.proofs.NativeLemmas.{guard_known}
use Rattle.spin_objects.proofs.catalogue.Catalogue.guard_type.Goals as goal

pub guard-requires : goal.guard-requires
guard-requires g c = subst (IsCheckThere (length c.args.self.now.natives.guards)) c.in-Native.is c.check.ensures.there

pub returns-in-Coded : goal.returns-in-Coded
returns-in-Coded g c =
    let natives = native_guards c.args.self.now.natives in
    numbered_and (unit_of_check natives) (λ (u : GuardUnit). c.in-Coded.sig ≡ u.sig) c.args.self.now.checks c.args.guard c.check.result.now c.check.ensures.check
    (ap (λ b. (unit_of_check natives b).sig) (sym c.in-Coded.is))

pub returns-in-Native : goal.returns-in-Native
returns-in-Native g c =
    let natives = native_guards c.args.self.now.natives in
    numbered_and (unit_of_check natives) (λ (u : GuardUnit). c.guard.result.now.sig ≡ u.sig) c.args.self.now.checks c.args.guard c.check.result.now c.check.ensures.check
    (ap (λ (u : GuardUnit). u.sig) (sym (guard_known c.args.self.now.natives.guards c.in-Native.native c.guard.result.now c.guard.ensures))
    ∙ ap (λ b. (unit_of_check natives b).sig) (sym c.in-Native.is))
