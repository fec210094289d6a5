-- The bindings of an event in the order in which they run.
use Rattle.std.specs.Prelude.{ℕ, List}
use Rattle.std.specs.List.{filter_map}
use Rattle.spin_word.specs.declared.command.Command.{Command}
use Rattle.spin_policy.specs.declared.rule.Rule.{Rule}
use Rattle.spin_place.specs.declared.binding.Binding.{Binding}
use Rattle.spin_place.specs.Precedence.{IsCycle, HasLawfulOrder}
use Rattle.spin_table.specs.declared.event.EventDef.{EventDef}
use Rattle.spin_table.specs.declared.refusal.Refusal.TheVariants as refusal
use Rattle.spin_table.specs.declared.refusal.StepFault.{StepFault}
use Rattle.spin_table.specs.declared.refusal.StepFault.TheVariants as fault
use Rattle.spin_table.specs.States.{EventState, binding_of}
use Rattle.spin_table.specs.Steps.{event_after, IsConflict}

-- the bindings of these numbers, in the order of the numbers
abbrev pub arranged : List Binding → List ℕ → List Binding
arranged bs ns = filter_map (binding_of bs) ns

-- a cycle of the bindings, and then there is no order of them; want of memory comes at any time
abbrev pub IsOrderFault : List Binding → StepFault → Type 0
IsOrderFault bs (fault.Refused (refusal.Conflict ns)) = IsCycle bs ns × (HasLawfulOrder bs → ⊥)
IsOrderFault bs (fault.Refused r) = ⊥
IsOrderFault bs fault.NoMemory = Unit {0}

-- a conflict among the bindings that the command would leave; want of memory comes at any time
abbrev pub IsChangeFault : List (List Rule) → EventDef → ℕ → Command → EventState → StepFault → Type 0
IsChangeFault policies e number c s (fault.Refused r) = IsConflict c.op (event_after policies e number c s).bindings r
IsChangeFault policies e number c s fault.NoMemory = Unit {0}
