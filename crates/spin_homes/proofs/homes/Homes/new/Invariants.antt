use Rattle.std.proofs.Common.{◌≡◌, ◌≤◌, length, vec_capacity}
use Rattle.spin_homes.specs.Rule.{AreTicketsFrom}
use Rattle.spin_homes.proofs.homes.Homes.new.Given as goal

abbrev pub invariant-loop-slot : goal.invariant-loop-slot
invariant-loop-slot g l =
    AreTicketsFrom l.homes.table.shared.table_id 0 l.tickets.items
    × (length l.tickets.items ≡ l.slot)
    × (l.fn.count ≤ vec_capacity l.tickets)
