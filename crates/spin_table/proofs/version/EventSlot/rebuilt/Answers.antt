use Rattle.std.proofs.Common.{◌≡◌, ◌≤◌, ◌+◌, ◌∙◌, List, All, length, sym, ap, subst, arith}
use Rattle.spin_place.specs.declared.binding.Binding.{Binding}
use Rattle.spin_place.specs.Orders.{AreDistinct}
use Rattle.spin_place.specs.Precedence.{numbers_of, HasLawfulOrder}
use Rattle.spin_table.specs.Setups.{tests_in}
use Rattle.spin_table.specs.Orders.{IsOrderFault}
use Rattle.spin_table.specs.Inner.Slots.{Listed, Slot}
use Rattle.spin_plan.specs.Planned.{IsOver}
use Rattle.spin_table.proofs.CommandSteps.{change_fault}
use Rattle.spin_objects.specs.Units.{guards_of, policies_of}
use Rattle.spin_table.specs.SetupOf.{data_of}
use Rattle.spin_table.specs.Steps.{event_after, default_after}
use Rattle.spin_table.proofs.ImposedGuards.{authority_of_setup}
use Rattle.spin_table.proofs.BindingSoundness.{distinct-from_rising}
use Rattle.spin_table.proofs.StepSoundness.{AreSound-step, guards_there}
use Rattle.spin_table.proofs.version.EventSlot.rebuilt.Goals as goal

pub bindings_after-requires-clause-there : goal.bindings_after-requires-clause-there
bindings_after-requires-clause-there g c =
    authority_of_setup (data_of c.args.setup.now) c.args.c.now.event c.args.def.now c.args.setup.now.sound c.requires.event

pub make-requires-clause-distinct : goal.make-requires-clause-distinct
make-requires-clause-distinct g c =
    let d = data_of c.args.setup.now in
    let sound = AreSound-step d c.args.place c.args.def.now c.args.self.now.state c.args.c.now c.args.setup.now.sound c.requires.event c.requires.sound c.requires.passed in
    let bs = (event_after (policies_of c.args.setup.now.catalogue.natives) c.args.def.now (c.args.place + 1) c.args.c.now c.args.self.now.state).bindings in
    subst (λ (l : List Binding). AreDistinct (numbers_of l)) (sym c.in_ok-bindings.ensures) (distinct-from_rising (numbers_of bs) sound.rising)

pub make-requires-clause-few : goal.make-requires-clause-few
make-requires-clause-few g c =
    let d = data_of c.args.setup.now in
    let sound = AreSound-step d c.args.place c.args.def.now c.args.self.now.state c.args.c.now c.args.setup.now.sound c.requires.event c.requires.sound c.requires.passed in
    let few : length (event_after (policies_of c.args.setup.now.catalogue.natives) c.args.def.now (c.args.place + 1) c.args.c.now c.args.self.now.state).bindings ≤ c.args.setup.now.live = sound.few in
    omega (arith, ap length c.in_ok-bindings.ensures, few, c.args.setup.now.few_live)

pub make-requires-clause-own : goal.make-requires-clause-own
make-requires-clause-own g c =
    let d = data_of c.args.setup.now in
    let sound = AreSound-step d c.args.place c.args.def.now c.args.self.now.state c.args.c.now c.args.setup.now.sound c.requires.event c.requires.sound c.requires.passed in
    let there = guards_there d (c.args.place + 1) c.args.c.now.event c.args.def.now _ sound in
    subst (λ (l : List Binding). All (λ (b : Binding). b.own_guard ≤ length (guards_of c.args.setup.now.catalogue)) l) (sym c.in_ok-bindings.ensures) there.0

pub make-requires-clause-imposed : goal.make-requires-clause-imposed
make-requires-clause-imposed g c =
    let d = data_of c.args.setup.now in
    let sound = AreSound-step d c.args.place c.args.def.now c.args.self.now.state c.args.c.now c.args.setup.now.sound c.requires.event c.requires.sound c.requires.passed in
    let there = guards_there d (c.args.place + 1) c.args.c.now.event c.args.def.now _ sound in
    subst (λ (l : List Binding). All (λ (b : Binding). All (λ n. n ≤ length (guards_of c.args.setup.now.catalogue)) b.imposed) l) (sym c.in_ok-bindings.ensures) there.1

pub returns-in-Err-clause-change : goal.returns-in-Err-clause-change
returns-in-Err-clause-change g c =
    change_fault (data_of c.args.setup.now) c.args.def.now c.args.self.now.state c.args.c.now (c.args.place + 1) c.in-Err.fault c.requires.sound.orderly
    (subst (λ (l : List Binding). IsOrderFault l c.in-Err.fault) c.in_ok-bindings.ensures c.in-Err.ensures.made)

pub returns-clause-change : goal.returns-clause-change
returns-clause-change g c =
    let s = c.args.self.now.state in
    let made : c.in_ok-new.field-0.value.bindings ≡ c.in_ok-bindings.bindings =
    ap (λ (l : Listed). l.bindings) c.in_ok-new.ensures.ok ∙ c.in-Ok.ensures.made.0 in
    let bindings : c.in_ok-new.field-0.value.bindings ≡ (event_after (policies_of c.args.setup.now.catalogue.natives) c.args.def.now (c.args.place + 1) c.args.c.now s).bindings =
    made ∙ c.in_ok-bindings.ensures in
    let default : c.default_after.result ≡ default_after c.args.c.now c.args.c.now.op s.default =
    c.default_after.ensures ∙ ap (default_after c.args.c.now c.args.c.now.op) (ap (λ (x : Slot). x.state.default) c.self.view_is) in (
      λ i. record { bindings = bindings i; default = default i },
      subst HasLawfulOrder (sym made) c.in-Ok.ensures.made.1,
    )

pub returns-clause-over : goal.returns-clause-over
returns-clause-over g c = subst (λ (l : Listed). IsOver (tests_in (data_of c.args.setup.now)) l.plan) (sym c.in_ok-new.ensures.ok) c.in-Ok.ensures.over
