use Rattle.std.proofs.Common.{◌≡◌, ◌∙◌, false, sym, ap, arith}
use Rattle.std.specs.Prelude.{Some, None, nat_le}
use Rattle.spin_values.specs.First.{first_of}
use Rattle.spin_objects.specs.Units.{handlers_of, guards_of}
use Rattle.spin_table.specs.declared.refusal.Refusal.TheVariants as refusal
use Rattle.spin_table.specs.SetupOf.{data_of}
use Rattle.spin_table.specs.Refusals.{unit_refusals, owner_refusals}
use Rattle.spin_table.proofs.FirstRefusals.{before_owner, behind_units, not_le}
use Rattle.spin_table.proofs.judging.refusal.Goals as goal

pub returns-in-Some : goal.returns-in-Some
returns-in-Some g c =
    let a = c.args in
    let catalogue = a.setup.now.catalogue in
    let units = unit_refusals (handlers_of catalogue) (guards_of catalogue) a.def.now a.bindings.now a.c.now in
    let found : first_of units ≡ Some c.in-Some.refusal =
    sym (ap (λ x. first_of (unit_refusals (handlers_of x) (guards_of x) a.def.now a.bindings.now a.c.now)) c.catalogue.ensures) ∙ sym c.unit_refusal.ensures ∙ c.in-Some.is in
    let module_there : nat_le a.setup.now.modules a.c.now.requester ≡ false =
    not_le a.setup.now.modules a.c.now.requester (omega (arith, c.if-from-modules.false, c.from.ensures, c.modules.ensures)) in
    sym (before_owner (nat_le a.setup.now.modules a.c.now.requester) refusal.UnknownModule units
    (owner_refusals (data_of a.setup.now) a.def.now a.bindings.now a.c.now) c.in-Some.refusal module_there found)

pub returns-in-None : goal.returns-in-None
returns-in-None g c =
    let a = c.args in
    let catalogue = a.setup.now.catalogue in
    let units = unit_refusals (handlers_of catalogue) (guards_of catalogue) a.def.now a.bindings.now a.c.now in
    let none : first_of units ≡ None =
    sym (ap (λ x. first_of (unit_refusals (handlers_of x) (guards_of x) a.def.now a.bindings.now a.c.now)) c.catalogue.ensures) ∙ sym c.unit_refusal.ensures ∙ c.in-None.is in
    let module_there : nat_le a.setup.now.modules a.c.now.requester ≡ false =
    not_le a.setup.now.modules a.c.now.requester (omega (arith, c.if-from-modules.false, c.from.ensures, c.modules.ensures)) in
    c.owner_refusal.ensures
    ∙ sym (behind_units (nat_le a.setup.now.modules a.c.now.requester) refusal.UnknownModule units (owner_refusals (data_of a.setup.now) a.def.now a.bindings.now a.c.now) module_there none)
