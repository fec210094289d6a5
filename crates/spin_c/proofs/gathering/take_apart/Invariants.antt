use Rattle.std.proofs.Common.{◌≡◌, ◌≤◌, ◌+◌, ◌∷◌, ◌++◌, drop, length, map, vec_capacity}
use Rattle.spin_c.specs.Waiting.{present}
use Rattle.spin_c.proofs.Opening.{seat_of, ticket_of}
use Rattle.spin_c.proofs.gathering.take_apart.Given as goal

abbrev pub invariant-loop-slots : goal.invariant-loop-slots
invariant-loop-slots l =
    (l.seats.items ++ map seat_of (present l.slots.items) ≡ map seat_of (l.fn.away ∷ present (drop 1 l.fn.waiting)))
    × (l.tickets.items ++ map ticket_of (present l.slots.items) ≡ map ticket_of (l.fn.away ∷ present (drop 1 l.fn.waiting)))
    × (length l.seats.items + length l.slots.items ≤ vec_capacity l.seats) × (length l.tickets.items + length l.slots.items ≤ vec_capacity l.tickets)
    × (length l.fn.waiting ≤ vec_capacity l.slots)

abbrev pub decreases-loop-slots : goal.decreases-loop-slots
decreases-loop-slots l = length l.slots.items
