-- The slots of a version.
use Rattle.std.proofs.Common.{◌≡◌, ℕ, List, [], ◌∷◌, ap, subst, sym, refl, ◌∙◌, map}
use Rattle.std.specs.Prelude.{slice_get, Some, slice_set, All}
use Rattle.std.specs.Option.{option_map}
use Rattle.std.proofs.lemmas.List.{map-set}
use Rattle.std.proofs.lemmas.List.Elements.{All-map, All-head, All-tail, All-nil, All-cons}
use Rattle.std.proofs.lemmas.Option.{slice_get-map, slice_get_within, get_or_from_slice_get}
use Rattle.spin_code.specs.declared.test.Test.{Test}
use Rattle.spin_plan.specs.Planned.{Planned, IsOver}
use Rattle.spin_table.specs.declared.event.EventDef.{EventDef}
use Rattle.spin_table.specs.States.{EventState, VersionValue, first_state}
use Rattle.spin_table.specs.Inner.Slots.{Slot, states_of, IsSlotOver, first_slot}

-- the state of an event is that of its slot
pub state_read : (slots : List Slot) (event : ℕ) (slot : Slot) → slice_get slots event ≡ Some slot → slice_get (states_of slots) event ≡ Some slot.state
state_read slots event slot read = slice_get-map (λ (s : Slot). s.state) slots event ∙ ap (option_map (λ (s : Slot). s.state)) read

-- the same in the version
pub state_there : (place : ℕ) (slots : List Slot) (tests : List Test) (v : VersionValue) (event : ℕ) (slot : Slot)
    → ◌≡◌ {A = VersionValue} (record { state = record { place = place; events = states_of slots }; tests = tests }) v
    → slice_get slots event ≡ Some slot → slice_get v.state.events event ≡ Some slot.state
state_there place slots tests v event slot is read = subst (λ (x : VersionValue). slice_get x.state.events event ≡ Some slot.state) is (state_read slots event slot read)

-- one slot more, and so the state of one event more
pub states_set : (slots : List Slot) (event : ℕ) (slot : Slot) → states_of (slice_set slots event slot) ≡ slice_set (states_of slots) event slot.state
states_set slots event slot = map-set (λ (s : Slot). s.state) slots event slot

-- each plan was compiled over the tests
pub over_there : (tests : List Test) (slots : List Slot) (event : ℕ) (slot : Slot) → All (IsSlotOver tests) slots → slice_get slots event ≡ Some slot → IsSlotOver tests slot
over_there tests slots event slot all read =
    subst (IsSlotOver tests) (get_or_from_slice_get slots event slot slot read) (all event slot (slice_get_within slots event slot read))

-- the slots at the start have the first states, and one plan
pub first_states : (plan : Planned) (events : List EventDef) (slots : List Slot) → slots ≡ map (first_slot plan) events → states_of slots ≡ map first_state events
first_states plan events slots is = ap states_of is ∙ same events
  where
    same : (es : List EventDef) → states_of (map (first_slot plan) es) ≡ map first_state es
    same [] = refl
    same (e ∷ es) = ap (λ (l : List EventState). first_state e ∷ l) (same es)

pub first_over : (tests seen : List Test) (plan : Planned) (events : List EventDef) (slots : List Slot) → IsOver tests plan → seen ≡ tests → slots ≡ map (first_slot plan) events
    → All (IsSlotOver seen) slots
first_over tests seen plan events slots over same is =
    subst (λ (l : List Slot). All (IsSlotOver seen) l) (sym is)
    (All-map (IsSlotOver seen) (first_slot plan) events (λ k e l. subst (λ (ts : List Test). IsOver ts plan) (sym same) over))

-- what holds of the states holds of each slot's
pub of_slot : (P : EventState → Type 0) (slots : List Slot) → All P (states_of slots) → All (λ (s : Slot). P s.state) slots
of_slot P [] all = All-nil (λ (s : Slot). P s.state)
of_slot P (s ∷ slots) all =
    All-cons (λ (x : Slot). P x.state) s slots (All-head P s.state (states_of slots) all) (of_slot P slots (All-tail P s.state (states_of slots) all))
