use Rattle.std.proofs.Common.{◌≡◌, ◌≤◌, ◌+◌, ◌∷◌, ◌++◌, length, map, vec_capacity, List}
use Rattle.std.specs.Prelude.{None, Some}
use Rattle.spin_seat.specs.declared.party.Away.{Away}
use Rattle.spin_c.proofs.Opening.{seat_of, ticket_of}
use Rattle.spin_c.proofs.gathering.lay.Given as goal

abbrev pub invariant-loop-seats : goal.invariant-loop-seats
invariant-loop-seats l =
    (others : List Away)
    × (l.slots.items ≡ None ∷ map Some others)
    × (l.fn.apart.seats ≡ map seat_of (l.away ∷ others) ++ l.seats.items) × (l.fn.apart.tickets ≡ map ticket_of (l.away ∷ others) ++ l.tickets.items)
    × (length l.tickets.items ≡ length l.seats.items) × (length l.slots.items + length l.seats.items ≤ vec_capacity l.slots)
    × (length l.fn.apart.seats ≤ vec_capacity l.seats) × (length l.fn.apart.seats ≤ vec_capacity l.tickets)

abbrev pub decreases-loop-seats : goal.decreases-loop-seats
decreases-loop-seats l = length l.seats.items
