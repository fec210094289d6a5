-- Logs, setups and states as numbers: no two have the same.
use Rattle.std.specs.Prelude.{ℕ, List, [], ◌∷◌, ◌++◌, refl}
use Rattle.std.specs.Coded.{Coded, code_by, coded×, coded_ℕ, coded_list}
use base.Stored.{Gv, gnil, gnum, gcons}
use Rattle.atomic_table.specs.Seated.{TableId, table_id_coded}
use Rattle.spin_values.specs.declared.types.EventType.{EventType}
use Rattle.spin_values.specs.contracts.types.EventType as event_type
use Rattle.spin_code.specs.declared.act.Act.{Act}
use Rattle.spin_code.specs.contracts.act.Act as act
use Rattle.spin_code.specs.declared.test.Test.{Test}
use Rattle.spin_code.specs.contracts.test.Test as test
use Rattle.spin_place.specs.declared.binding.Binding.{Binding}
use Rattle.spin_place.specs.contracts.binding.Binding as binding
use Rattle.spin_policy.specs.declared.rule.Rule.{Rule}
use Rattle.spin_policy.specs.contracts.rule.Rule as rule
use Rattle.spin_objects.specs.Units.{HandlerUnit, GuardUnit}
use Rattle.spin_table.specs.declared.event.EventDef.{EventDef}
use Rattle.spin_table.specs.contracts.event.EventDef as event
use Rattle.spin_table.specs.Setups.{SetupData}
use Rattle.spin_table.specs.States.{State, EventState}

-- a tree of numbers, in order
unfoldable pub flat : Gv → List ℕ
flat gnil = 0 ∷ []
flat (gnum n) = 1 ∷ n ∷ []
flat (gcons a b) = 2 ∷ flat a ++ flat b

abbrev pub handler_code : Coded HandlerUnit
handler_code =
    code_by (EventType × Act) (coded× event_type.the_row.coded act.the_row.coded)
    (λ h. (h.sig, h.act)) (λ p. record { sig = p.0; act = p.1 }) (λ _. refl)

abbrev pub guard_code : Coded GuardUnit
guard_code =
    code_by (EventType × Test) (coded× event_type.the_row.coded test.the_row.coded)
    (λ g. (g.sig, g.test)) (λ p. record { sig = p.0; test = p.1 }) (λ _. refl)

abbrev pub setup_code : Coded SetupData
setup_code =
    code_by (ℕ × (ℕ × (List EventDef × (List HandlerUnit × (List GuardUnit × List (List Rule))))))
    (coded× coded_ℕ (coded× coded_ℕ (coded× (coded_list event.the_row.coded)
    (coded× (coded_list handler_code) (coded× (coded_list guard_code) (coded_list (coded_list rule.the_row.coded)))))))
    (λ d. (d.modules, (d.live, (d.events, (d.handlers, (d.guards, d.policies))))))
    (λ p. record {
      modules = p.0;
      live = p.1.0;
      events = p.1.1.0;
      handlers = p.1.1.1.0;
      guards = p.1.1.1.1.0;
      policies = p.1.1.1.1.1;
    }) (λ _. refl)

abbrev pub event_code : Coded EventState
event_code =
    code_by (List Binding × ℕ) (coded× (coded_list binding.the_row.coded) coded_ℕ)
    (λ e. (e.bindings, e.default)) (λ p. record { bindings = p.0; default = p.1 }) (λ _. refl)

abbrev pub state_code : Coded State
state_code =
    code_by (ℕ × List EventState) (coded× coded_ℕ (coded_list event_code))
    (λ s. (s.place, s.events)) (λ p. record { place = p.0; events = p.1 }) (λ _. refl)

unfoldable pub log_numbers : TableId → List ℕ
log_numbers log = flat (table_id_coded.code log)

unfoldable pub setup_numbers : SetupData → List ℕ
setup_numbers d = flat (setup_code.code d)

unfoldable pub state_numbers : State → List ℕ
state_numbers s = flat (state_code.code s)
