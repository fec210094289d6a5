use Rattle.std.proofs.Common.{◌+◌, ◌∙◌, sym, subst, ap}
use Rattle.spin_place.specs.Precedence.{HasLawfulOrder}
use Rattle.spin_objects.specs.Units.{policies_of}
use Rattle.spin_table.specs.Setups.{tests_in}
use Rattle.spin_table.specs.SetupOf.{data_of}
use Rattle.spin_table.specs.Inner.Slots.{Slot, IsSlotOver}
use Rattle.spin_table.proofs.CommandSteps.{after_default, after_no_default}
use Rattle.spin_table.proofs.version.EventSlot.after.Goals as goal

pub returns-in_ok-with_default-in-Default-clause-change : goal.returns-in_ok-with_default-in-Default-clause-change
returns-in_ok-with_default-in-Default-clause-change g c =
    let made = c.in_ok-with_default-in-Default.ensures in (
      ap (λ (x : Slot). x.state) made ∙ sym (after_default (policies_of c.args.setup.now.catalogue.natives) c.args.def.now (c.args.place + 1) c.args.c.now c.args.self.now.state c.in-Default.is),
      subst HasLawfulOrder (sym (ap (λ (x : Slot). x.state.bindings) made)) c.requires.sound.orderly,
    )

pub returns-in_ok-with_default-in-NoDefault-clause-change : goal.returns-in_ok-with_default-in-NoDefault-clause-change
returns-in_ok-with_default-in-NoDefault-clause-change g c =
    let made = c.in_ok-with_default-in-NoDefault.ensures in (
      ap (λ (x : Slot). x.state) made ∙ sym (after_no_default (policies_of c.args.setup.now.catalogue.natives) c.args.def.now (c.args.place + 1) c.args.c.now c.args.self.now.state c.in-NoDefault.is),
      subst HasLawfulOrder (sym (ap (λ (x : Slot). x.state.bindings) made)) c.requires.sound.orderly,
    )

pub returns-in_ok-with_default-in-Default-clause-over : goal.returns-in_ok-with_default-in-Default-clause-over
returns-in_ok-with_default-in-Default-clause-over g c =
    subst (IsSlotOver (tests_in (data_of c.args.setup.now))) (sym c.in_ok-with_default-in-Default.ensures) c.requires.over

pub returns-in_ok-with_default-in-NoDefault-clause-over : goal.returns-in_ok-with_default-in-NoDefault-clause-over
returns-in_ok-with_default-in-NoDefault-clause-over g c =
    subst (IsSlotOver (tests_in (data_of c.args.setup.now))) (sym c.in_ok-with_default-in-NoDefault.ensures) c.requires.over
