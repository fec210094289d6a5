-- What a version keeps of an event.
use Rattle.std.specs.Prelude.{List, map}
use Rattle.spin_code.specs.declared.test.Test.{Test}
use Rattle.spin_place.specs.declared.binding.Binding.{Binding}
use Rattle.spin_plan.specs.Planned.{Planned, IsOver}
use Rattle.spin_table.specs.declared.event.EventDef.{EventDef}
use Rattle.spin_table.specs.States.{EventState, first_state}

-- an event's bindings, and the plan by which they run
pub record Listed : Type 0 where
  pub bindings : List Binding
  pub plan : Planned

-- an event's state, and the plan by which its bindings run
pub record Slot : Type 0 where
  pub state : EventState
  pub plan : Planned

-- the states of the events
abbrev pub states_of : List Slot → List EventState
states_of slots = map (λ (slot : Slot). slot.state) slots

-- the plan was compiled over these tests
abbrev pub IsSlotOver : List Test → Slot → Type 0
IsSlotOver tests slot = IsOver tests slot.plan

-- the slot at the start, with the plan of an event without bindings
abbrev pub first_slot : Planned → EventDef → Slot
first_slot plan e = record { state = first_state e; plan = plan }
