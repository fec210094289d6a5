use Rattle.std.proofs.Common.{◌≡◌, ◌≤◌, ◌+◌, ◌∙◌, true, false, length, sym, ap, subst, arith}
use Rattle.std.specs.Prelude.{slice_get, Some, None}
use Rattle.std.specs.Arc.{arc_value}
use Rattle.spin_values.specs.First.{first_of}
use Rattle.spin_policy.specs.Verdicts.{is_install}
use Rattle.spin_table.specs.SetupOf.{data_of}
use Rattle.spin_table.specs.States.{VersionValue}
use Rattle.spin_table.specs.Refusals.{refusals_at}
use Rattle.spin_table.specs.Steps.{event_after}
use Rattle.spin_table.specs.Inner.Slots.{Listed, Slot}
use Rattle.spin_table.proofs.ImposedGuards.{authority_of_setup}
use Rattle.spin_table.proofs.Conflicts.{may_conflict, refused_before, no_ring}
use Rattle.spin_table.proofs.Slots.{state_there}
use Rattle.spin_table.proofs.version.Version.may_conflict.Goals as goal

pub refusal-requires-clause-few : goal.refusal-requires-clause-few
refusal-requires-clause-few g c =
    let event = c.args.c.now.event in
    let t = c.get-slot.result.now.state in
    let read_t : slice_get c.args.self.now.state.events event ≡ Some t = state_there c.self.inside.place c.self.inside.events (arc_value c.self.inside.tests) c.args.self.now event c.get-slot.result.now c.self.view_is c.get-slot.ensures in
    let each = c.requires.sound.state.each event c.event-def.result.now t c.event-def.ensures read_t in
    let few : length t.bindings ≤ c.args.setup.now.live = each.few in
    let same : c.bindings.result.now ≡ t.bindings = c.bindings.ensures ∙ ap (λ (l : Listed). l.bindings) c.deref.ensures ∙ ap (λ (x : Slot). x.state.bindings) c.slot.view_is in
    omega (arith, few, c.args.setup.now.few_live, ap length same)

pub refusal-requires-clause-there : goal.refusal-requires-clause-there
refusal-requires-clause-there g c =
    authority_of_setup (data_of c.args.setup.now) c.args.c.now.event c.event-def.result.now c.args.setup.now.sound c.event-def.ensures

pub bindings_after-requires-clause-few : goal.bindings_after-requires-clause-few
bindings_after-requires-clause-few g c =
    let event = c.args.c.now.event in
    let t = c.get-slot.result.now.state in
    let read_t : slice_get c.args.self.now.state.events event ≡ Some t = state_there c.self.inside.place c.self.inside.events (arc_value c.self.inside.tests) c.args.self.now event c.get-slot.result.now c.self.view_is c.get-slot.ensures in
    let each = c.requires.sound.state.each event c.event-def.result.now t c.event-def.ensures read_t in
    let few : length t.bindings ≤ c.args.setup.now.live = each.few in
    omega (arith, few, c.args.setup.now.few_live)

pub bindings_after-requires-clause-there : goal.bindings_after-requires-clause-there
bindings_after-requires-clause-there g c =
    authority_of_setup (data_of c.args.setup.now) c.args.c.now.event c.event-def.result.now c.args.setup.now.sound c.event-def.ensures

pub returns-in-Some : goal.returns-in-Some
returns-in-Some g c =
    let d = data_of c.args.setup.now in
    let s = c.args.self.now.state in
    let command = c.args.c.now in
    let e = c.event-def.result.now in
    let t = c.get-slot.result.now.state in
    let read : slice_get s.events command.event ≡ Some t = state_there c.self.inside.place c.self.inside.events (arc_value c.self.inside.tests) c.args.self.now command.event c.get-slot.result.now c.self.view_is c.get-slot.ensures in
    let same : c.bindings.result.now ≡ t.bindings = c.bindings.ensures ∙ ap (λ (l : Listed). l.bindings) c.deref.ensures ∙ ap (λ (x : Slot). x.state.bindings) c.slot.view_is in
    let first : first_of (refusals_at d e t.bindings command) ≡ Some c.in-Some.field-0 = subst (λ bs. first_of (refusals_at d e bs command) ≡ Some c.in-Some.field-0) same (sym c.in-Some.ensures) in
    (λ f. absurd (cc (f)), λ h. absurd (refused_before d s command c.args.cycle.now e t c.in-Some.field-0 c.event-def.ensures read first h))

pub returns-then-not-is_install : goal.returns-then-not-is_install
returns-then-not-is_install g c =
    let d = data_of c.args.setup.now in
    let s = c.args.self.now.state in
    let command = c.args.c.now in
    let e = c.event-def.result.now in
    let t = c.get-slot.result.now.state in
    let read : slice_get s.events command.event ≡ Some t = state_there c.self.inside.place c.self.inside.events (arc_value c.self.inside.tests) c.args.self.now command.event c.get-slot.result.now c.self.view_is c.get-slot.ensures in
    let same : c.bindings.result.now ≡ t.bindings = c.bindings.ensures ∙ ap (λ (l : Listed). l.bindings) c.deref.ensures ∙ ap (λ (x : Slot). x.state.bindings) c.slot.view_is in
    let none : first_of (refusals_at d e t.bindings command) ≡ None = subst (λ bs. first_of (refusals_at d e bs command) ≡ None) same (sym c.in_default.ensures) in
    let other : false ≡ is_install command.op = sym c.if-not-is_install.true ∙ c.is_install.ensures in
    no_ring d s command c.args.cycle.now e t c.event-def.ensures read none other

pub returns : goal.returns
returns g c =
    let d = data_of c.args.setup.now in
    let s = c.args.self.now.state in
    let command = c.args.c.now in
    let e = c.event-def.result.now in
    let t = c.get-slot.result.now.state in
    let read : slice_get s.events command.event ≡ Some t = state_there c.self.inside.place c.self.inside.events (arc_value c.self.inside.tests) c.args.self.now command.event c.get-slot.result.now c.self.view_is c.get-slot.ensures in
    let same : c.bindings.result.now ≡ t.bindings = c.bindings.ensures ∙ ap (λ (l : Listed). l.bindings) c.deref.ensures ∙ ap (λ (x : Slot). x.state.bindings) c.slot.view_is in
    let none : first_of (refusals_at d e t.bindings command) ≡ None = subst (λ bs. first_of (refusals_at d e bs command) ≡ None) same (sym c.in_default.ensures) in
    let place : c.self.inside.place ≡ s.place = ap (λ (v : VersionValue). v.state.place) c.self.view_is in
    let made : c.as_slice.result.now ≡ (event_after d.policies e (s.place + 1) command t).bindings =
    c.as_slice.ensures ∙ c.in_ok-bindings.ensures ∙ ap (λ n. (event_after d.policies e (n + 1) command t).bindings) place in
    let other : true ≡ is_install command.op = sym c.if-not-is_install.false ∙ c.is_install.ensures in
    may_conflict d s command c.args.cycle.now e t true c.is_cycle.result c.as_slice.result.now c.event-def.ensures read none made other c.is_cycle.ensures
