use Rattle.std.proofs.Common.{◌≡◌, ◌∙◌, List, sym, ap, subst, map}
use Rattle.std.specs.Arc.{arc_value}
use Rattle.spin_plan.specs.Planned.{IsOver}
use Rattle.spin_objects.specs.Units.{tests_of}
use Rattle.spin_table.specs.SetupOf.{data_of}
use Rattle.spin_table.specs.Setups.{tests_in}
use Rattle.spin_table.specs.States.{EventState, first_state}
use Rattle.spin_table.specs.Soundness.{IsSound}
use Rattle.spin_table.specs.Inner.Slots.{Listed, first_slot, states_of}
use Rattle.spin_table.proofs.StartSoundness.{start_sound}
use Rattle.spin_table.proofs.Slots.{first_states, first_over}
use Rattle.spin_table.proofs.version.Version.start.Goals as goal

pub invariant_of-result : goal.invariant_of-result
invariant_of-result g c =
    let d = data_of c.args.setup.now in
    let over : IsOver (tests_in d) (arc_value c.in_ok-empty.empty).plan = subst (λ (l : Listed). IsOver (tests_in d) l.plan) (sym c.in_ok-empty.ensures.ok) c.in_ok-lists.ensures.over in
    first_over (tests_in d) _ (arc_value c.in_ok-empty.empty).plan d.events c.in_ok-events.events over (c.in_ok-tests.ensures.ok ∙ c.in_ok-of.ensures ∙ ap tests_of c.catalogue.ensures)
    (c.in_ok-events.ensures ∙ ap (map (first_slot (arc_value c.in_ok-empty.empty).plan)) c.event_defs.ensures)

pub returns-clause-start : goal.returns-clause-start
returns-clause-start g c =
    let d = data_of c.args.setup.now in
    let made : states_of c.in_ok-events.events ≡ map first_state d.events =
    first_states (arc_value c.in_ok-empty.empty).plan d.events c.in_ok-events.events
    (c.in_ok-events.ensures ∙ ap (map (first_slot (arc_value c.in_ok-empty.empty).plan)) c.event_defs.ensures) in
    ap (λ (es : List EventState). record { place = 0; events = es }) made

pub returns-clause-sound : goal.returns-clause-sound
returns-clause-sound g c =
    let d = data_of c.args.setup.now in
    let made : states_of c.in_ok-events.events ≡ map first_state d.events =
    first_states (arc_value c.in_ok-empty.empty).plan d.events c.in_ok-events.events
    (c.in_ok-events.ensures ∙ ap (map (first_slot (arc_value c.in_ok-empty.empty).plan)) c.event_defs.ensures) in
    record {
      state = subst (λ (es : List EventState). IsSound d (record { place = 0; events = es })) (sym made) (start_sound d c.args.setup.now.sound);
      tests = c.in_ok-tests.ensures.ok ∙ c.in_ok-of.ensures ∙ ap tests_of c.catalogue.ensures;
    }
