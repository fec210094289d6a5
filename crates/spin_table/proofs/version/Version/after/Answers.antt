use Rattle.std.proofs.Common.{◌≡◌, ◌≤◌, ◌+◌, ◌∙◌, length, sym, ap, subst, arith}
use Rattle.std.specs.Prelude.{slice_get, Some, None}
use Rattle.std.specs.Arc.{arc_value}
use Rattle.std.proofs.lemmas.Option.{slice_get_within}
use Rattle.spin_values.specs.First.{first_of}
use Rattle.spin_objects.specs.Units.{policies_of}
use Rattle.spin_table.specs.SetupOf.{data_of}
use Rattle.spin_table.specs.States.{EventState, VersionValue}
use Rattle.spin_table.specs.Refusals.{refusals_at}
use Rattle.spin_table.specs.Steps.{event_after, bindings_at, bindings_if, IsStep}
use Rattle.spin_table.specs.Orders.{IsChangeFault}
use Rattle.spin_table.specs.Inner.Slots.{Listed, Slot}
use Rattle.spin_table.specs.Soundness.{IsSoundEvent, IsSoundVersion}
use Rattle.spin_table.specs.declared.refusal.Verdicted.TheVariants as verdicted
use Rattle.spin_table.proofs.ImposedGuards.{authority_of_setup}
use Rattle.spin_table.proofs.StepSoundness.{AreSound-step}
use Rattle.spin_table.proofs.CommandSteps.{accepted, unrefused, short_of_memory, sound_after, orderly_for, answer_of_fault, slice_get-set_same}
use Rattle.spin_table.proofs.Slots.{state_there}
use Rattle.spin_table.proofs.version.Version.after.Goals as goal

pub refusal-requires : goal.refusal-requires
refusal-requires g c =
    let event = c.args.c.now.event in
    let t = c.get-slot.result.now.state in
    let read_t : slice_get c.args.self.now.state.events event ≡ Some t = state_there c.self.inside.place c.self.inside.events (arc_value c.self.inside.tests) c.args.self.now event c.get-slot.result.now c.self.view_is c.get-slot.ensures in
    let each = c.requires.sound.state.each event c.event-def.result.now t c.event-def.ensures read_t in
    let few : length t.bindings ≤ c.args.setup.now.live = each.few in
    let same : c.bindings.result.now ≡ t.bindings = c.bindings.ensures ∙ ap (λ (l : Listed). l.bindings) c.deref.ensures ∙ ap (λ (x : Slot). x.state.bindings) c.slot.view_is in
    record {
      few = omega (arith, few, c.args.setup.now.few_live, ap length same);
      there = authority_of_setup (data_of c.args.setup.now) event c.event-def.result.now c.args.setup.now.sound c.event-def.ensures;
      sincere = c.requires.sincere;
    }

pub after-requires-clause-sound : goal.after-requires-clause-sound
after-requires-clause-sound g c =
    let event = c.args.c.now.event in
    let t = c.get-slot.result.now.state in
    let read_t : slice_get c.args.self.now.state.events event ≡ Some t = state_there c.self.inside.place c.self.inside.events (arc_value c.self.inside.tests) c.args.self.now event c.get-slot.result.now c.self.view_is c.get-slot.ensures in
    let each = c.requires.sound.state.each event c.event-def.result.now t c.event-def.ensures read_t in
    subst (λ n. IsSoundEvent (data_of c.args.setup.now) n event c.event-def.result.now t) (sym (ap (λ (v : VersionValue). v.state.place) c.self.view_is)) each

pub returns-in-Err-clause-answer : goal.returns-in-Err-clause-answer
returns-in-Err-clause-answer g c =
    let d = data_of c.args.setup.now in
    let s = c.args.self.now.state in
    let event = c.args.c.now.event in
    let e = c.event-def.result.now in
    let t = c.get-slot.result.now.state in
    let read : slice_get s.events event ≡ Some t = state_there c.self.inside.place c.self.inside.events (arc_value c.self.inside.tests) c.args.self.now event c.get-slot.result.now c.self.view_is c.get-slot.ensures in
    let same : c.bindings.result.now ≡ t.bindings = c.bindings.ensures ∙ ap (λ (l : Listed). l.bindings) c.deref.ensures ∙ ap (λ (x : Slot). x.state.bindings) c.slot.view_is in
    let none : first_of (refusals_at d e t.bindings c.args.c.now) ≡ None = subst (λ bs. first_of (refusals_at d e bs c.args.c.now) ≡ None) same (sym c.in-None.ensures) in
    let place : c.self.inside.place ≡ s.place = ap (λ (v : VersionValue). v.state.place) c.self.view_is in
    answer_of_fault d s c.args.c.now e t c.event-def.ensures read none c.in-Err.fault
    (subst (λ n. IsChangeFault (policies_of c.args.setup.now.catalogue.natives) e (n + 1) c.args.c.now t c.in-Err.fault) place c.in-Err.ensures.change)

pub returns-in-Err-clause-no_more : goal.returns-in-Err-clause-no_more
returns-in-Err-clause-no_more g c =
    let d = data_of c.args.setup.now in
    let s = c.args.self.now.state in
    let event = c.args.c.now.event in
    let e = c.event-def.result.now in
    let t = c.get-slot.result.now.state in
    let read : slice_get s.events event ≡ Some t = state_there c.self.inside.place c.self.inside.events (arc_value c.self.inside.tests) c.args.self.now event c.get-slot.result.now c.self.view_is c.get-slot.ensures in
    let same : c.bindings.result.now ≡ t.bindings = c.bindings.ensures ∙ ap (λ (l : Listed). l.bindings) c.deref.ensures ∙ ap (λ (x : Slot). x.state.bindings) c.slot.view_is in
    let none : first_of (refusals_at d e t.bindings c.args.c.now) ≡ None = subst (λ bs. first_of (refusals_at d e bs c.args.c.now) ≡ None) same (sym c.in-None.ensures) in
    let place : c.self.inside.place ≡ s.place = ap (λ (v : VersionValue). v.state.place) c.self.view_is in
    let each = subst (λ n. IsSoundEvent d n event e t) (sym place) (c.requires.sound.state.each event e t c.event-def.ensures read) in
    let after = AreSound-step d c.self.inside.place e t c.args.c.now c.args.setup.now.sound c.event-def.ensures each none in
    let few : length (event_after (policies_of c.args.setup.now.catalogue.natives) e (c.self.inside.place + 1) c.args.c.now t).bindings ≤ c.args.setup.now.live = after.few in
    omega (arith, c.after.ensures.ticks, few, c.args.setup.now.few_live)

pub returns-in_err-with_event-in-None-clause-answer : goal.returns-in_err-with_event-in-None-clause-answer
returns-in_err-with_event-in-None-clause-answer g c =
    let d = data_of c.args.setup.now in
    let s = c.args.self.now.state in
    let event = c.args.c.now.event in
    let e = c.event-def.result.now in
    let t = c.get-slot.result.now.state in
    let read : slice_get s.events event ≡ Some t = state_there c.self.inside.place c.self.inside.events (arc_value c.self.inside.tests) c.args.self.now event c.get-slot.result.now c.self.view_is c.get-slot.ensures in
    let same : c.bindings.result.now ≡ t.bindings = c.bindings.ensures ∙ ap (λ (l : Listed). l.bindings) c.deref.ensures ∙ ap (λ (x : Slot). x.state.bindings) c.slot.view_is in
    let none : first_of (refusals_at d e t.bindings c.args.c.now) ≡ None = subst (λ bs. first_of (refusals_at d e bs c.args.c.now) ≡ None) same (sym c.in-None.ensures) in
    short_of_memory d s c.args.c.now c.from_residual.result c.from_residual.ensures.1 (unrefused d s c.args.c.now e t c.event-def.ensures read none)

pub returns-in_err-with_event-in-None-clause-no_more : goal.returns-in_err-with_event-in-None-clause-no_more
returns-in_err-with_event-in-None-clause-no_more g c =
    let d = data_of c.args.setup.now in
    let s = c.args.self.now.state in
    let event = c.args.c.now.event in
    let e = c.event-def.result.now in
    let t = c.get-slot.result.now.state in
    let read : slice_get s.events event ≡ Some t = state_there c.self.inside.place c.self.inside.events (arc_value c.self.inside.tests) c.args.self.now event c.get-slot.result.now c.self.view_is c.get-slot.ensures in
    let same : c.bindings.result.now ≡ t.bindings = c.bindings.ensures ∙ ap (λ (l : Listed). l.bindings) c.deref.ensures ∙ ap (λ (x : Slot). x.state.bindings) c.slot.view_is in
    let none : first_of (refusals_at d e t.bindings c.args.c.now) ≡ None = subst (λ bs. first_of (refusals_at d e bs c.args.c.now) ≡ None) same (sym c.in-None.ensures) in
    let place : c.self.inside.place ≡ s.place = ap (λ (v : VersionValue). v.state.place) c.self.view_is in
    let each = subst (λ n. IsSoundEvent d n event e t) (sym place) (c.requires.sound.state.each event e t c.event-def.ensures read) in
    let after = AreSound-step d c.self.inside.place e t c.args.c.now c.args.setup.now.sound c.event-def.ensures each none in
    let few : length (event_after (policies_of c.args.setup.now.catalogue.natives) e (c.self.inside.place + 1) c.args.c.now t).bindings ≤ c.args.setup.now.live = after.few in
    omega (arith, c.after.ensures.ticks, few, c.args.setup.now.few_live)

pub returns-in_ok-with_event-in-None-clause-answer : goal.returns-in_ok-with_event-in-None-clause-answer
returns-in_ok-with_event-in-None-clause-answer g c =
    let d = data_of c.args.setup.now in
    let s = c.args.self.now.state in
    let event = c.args.c.now.event in
    let e = c.event-def.result.now in
    let t = c.get-slot.result.now.state in
    let read : slice_get s.events event ≡ Some t = state_there c.self.inside.place c.self.inside.events (arc_value c.self.inside.tests) c.args.self.now event c.get-slot.result.now c.self.view_is c.get-slot.ensures in
    let same : c.bindings.result.now ≡ t.bindings = c.bindings.ensures ∙ ap (λ (l : Listed). l.bindings) c.deref.ensures ∙ ap (λ (x : Slot). x.state.bindings) c.slot.view_is in
    let none : first_of (refusals_at d e t.bindings c.args.c.now) ≡ None = subst (λ bs. first_of (refusals_at d e bs c.args.c.now) ≡ None) same (sym c.in-None.ensures) in
    let place : c.self.inside.place ≡ s.place = ap (λ (v : VersionValue). v.state.place) c.self.view_is in
    let is : c.in-Ok.changed.state ≡ event_after (policies_of c.args.setup.now.catalogue.natives) e (s.place + 1) c.args.c.now t =
    c.in-Ok.ensures.change.0 ∙ ap (λ n. event_after (policies_of c.args.setup.now.catalogue.natives) e (n + 1) c.args.c.now t) place in
    subst (λ (v : VersionValue). IsStep d s c.args.c.now verdicted.Accepted v.state) (sym c.in_ok-with_event-in-None.ensures)
    (accepted d s c.args.c.now e t c.event-def.ensures read c.in-Ok.changed.state none is (orderly_for c.args.c.now.op c.in-Ok.changed.state.bindings c.in-Ok.ensures.change.1))

pub returns-in_ok-with_event-in-None-clause-sound : goal.returns-in_ok-with_event-in-None-clause-sound
returns-in_ok-with_event-in-None-clause-sound g c =
    let d = data_of c.args.setup.now in
    let s = c.args.self.now.state in
    let event = c.args.c.now.event in
    let e = c.event-def.result.now in
    let t = c.get-slot.result.now.state in
    let read : slice_get s.events event ≡ Some t = state_there c.self.inside.place c.self.inside.events (arc_value c.self.inside.tests) c.args.self.now event c.get-slot.result.now c.self.view_is c.get-slot.ensures in
    let same : c.bindings.result.now ≡ t.bindings = c.bindings.ensures ∙ ap (λ (l : Listed). l.bindings) c.deref.ensures ∙ ap (λ (x : Slot). x.state.bindings) c.slot.view_is in
    let none : first_of (refusals_at d e t.bindings c.args.c.now) ≡ None = subst (λ bs. first_of (refusals_at d e bs c.args.c.now) ≡ None) same (sym c.in-None.ensures) in
    let place : c.self.inside.place ≡ s.place = ap (λ (v : VersionValue). v.state.place) c.self.view_is in
    let is : c.in-Ok.changed.state ≡ event_after (policies_of c.args.setup.now.catalogue.natives) e (s.place + 1) c.args.c.now t =
    c.in-Ok.ensures.change.0 ∙ ap (λ n. event_after (policies_of c.args.setup.now.catalogue.natives) e (n + 1) c.args.c.now t) place in
    subst (IsSoundVersion d) (sym c.in_ok-with_event-in-None.ensures) (record {
      state = sound_after d s c.args.c.now e t c.in-Ok.changed.state c.args.setup.now.sound c.requires.sound.state c.event-def.ensures read none is c.in-Ok.ensures.change.1;
      tests = c.requires.sound.tests;
    })

pub returns-in_ok-with_event-in-None-clause-ok : goal.returns-in_ok-with_event-in-None-clause-ok
returns-in_ok-with_event-in-None-clause-ok g c =
    let d = data_of c.args.setup.now in
    let s = c.args.self.now.state in
    let event = c.args.c.now.event in
    let e = c.event-def.result.now in
    let t = c.get-slot.result.now.state in
    let read : slice_get s.events event ≡ Some t = state_there c.self.inside.place c.self.inside.events (arc_value c.self.inside.tests) c.args.self.now event c.get-slot.result.now c.self.view_is c.get-slot.ensures in
    let same : c.bindings.result.now ≡ t.bindings = c.bindings.ensures ∙ ap (λ (l : Listed). l.bindings) c.deref.ensures ∙ ap (λ (x : Slot). x.state.bindings) c.slot.view_is in
    let none : first_of (refusals_at d e t.bindings c.args.c.now) ≡ None = subst (λ bs. first_of (refusals_at d e bs c.args.c.now) ≡ None) same (sym c.in-None.ensures) in
    let place : c.self.inside.place ≡ s.place = ap (λ (v : VersionValue). v.state.place) c.self.view_is in
    let there : bindings_at c.in_ok-with_event-in-None.field-0.state event ≡ c.in-Ok.changed.state.bindings =
    ap (λ (v : VersionValue). bindings_at v.state event) c.in_ok-with_event-in-None.ensures ∙ ap bindings_if (slice_get-set_same s.events event c.in-Ok.changed.state (slice_get_within s.events event t read)) in
    let changed : c.in-Ok.changed.state.bindings ≡ (event_after (policies_of c.args.setup.now.catalogue.natives) e (c.self.inside.place + 1) c.args.c.now t).bindings =
    ap (λ (x : EventState). x.bindings) c.in-Ok.ensures.change.0 in
    omega (arith, c.after.ensures.ticks, ap length there, ap length changed)

pub returns-in_ok-with_event-in-None-clause-no_more : goal.returns-in_ok-with_event-in-None-clause-no_more
returns-in_ok-with_event-in-None-clause-no_more g c =
    let d = data_of c.args.setup.now in
    let s = c.args.self.now.state in
    let event = c.args.c.now.event in
    let e = c.event-def.result.now in
    let t = c.get-slot.result.now.state in
    let read : slice_get s.events event ≡ Some t = state_there c.self.inside.place c.self.inside.events (arc_value c.self.inside.tests) c.args.self.now event c.get-slot.result.now c.self.view_is c.get-slot.ensures in
    let same : c.bindings.result.now ≡ t.bindings = c.bindings.ensures ∙ ap (λ (l : Listed). l.bindings) c.deref.ensures ∙ ap (λ (x : Slot). x.state.bindings) c.slot.view_is in
    let none : first_of (refusals_at d e t.bindings c.args.c.now) ≡ None = subst (λ bs. first_of (refusals_at d e bs c.args.c.now) ≡ None) same (sym c.in-None.ensures) in
    let place : c.self.inside.place ≡ s.place = ap (λ (v : VersionValue). v.state.place) c.self.view_is in
    let each = subst (λ n. IsSoundEvent d n event e t) (sym place) (c.requires.sound.state.each event e t c.event-def.ensures read) in
    let after = AreSound-step d c.self.inside.place e t c.args.c.now c.args.setup.now.sound c.event-def.ensures each none in
    let few : length (event_after (policies_of c.args.setup.now.catalogue.natives) e (c.self.inside.place + 1) c.args.c.now t).bindings ≤ c.args.setup.now.live = after.few in
    omega (arith, c.after.ensures.ticks, few, c.args.setup.now.few_live)
