use Rattle.std.proofs.Common.{◌≡◌, take, map}
use Rattle.std.specs.Arc.{arc_value}
use Rattle.spin_table.specs.Inner.Slots.{first_slot}
use Rattle.spin_table.proofs.version.first_slots.Given as goal

-- the slots of the events so far are there
abbrev pub invariant-loop-event : goal.invariant-loop-event
invariant-loop-event l = l.slots ≡ map (first_slot (arc_value l.empty).plan) (take l.event-index l.events)
