use Rattle.std.proofs.Common.{◌∙◌, ◌++◌, ◌∷◌, [], arith, ap, length, map, sym}
use Rattle.std.specs.Prelude.{None, Some}
use Rattle.spin_seat.specs.declared.party.Away.{Away}
use Rattle.spin_c.proofs.Opening.{one_laid, one_waits, seat_of, taken_first, ticket_of}
use Rattle.spin_c.proofs.gathering.lay.Goals as goal

pub loop-seats-preserved : goal.loop-seats-preserved
loop-seats-preserved c =
    let old = c.loop-seats.invariant in
    let others = old.0 in
    let seat = c.remove-seat-in-loop-seats in
    let ticket = c.remove-ticket-in-loop-seats in
    let push = c.push_reserved-in-loop-seats in
    let away : Away = record { ticket = ticket.result; seat = seat.result } in
    let seats = taken_first c.loop-seats.seats.items seat.result (omega (arith, c.loop-seats.seats.ok.0)) seat.ensures.value ∙ ap (λ xs. seat.result ∷ xs) (sym seat.ensures.items) in
    let tickets = taken_first c.loop-seats.tickets.items ticket.result (omega (arith, c.loop-seats.seats.ok.0, old.4)) ticket.ensures.value ∙ ap (λ xs. ticket.result ∷ xs) (sym ticket.ensures.items) in (
      others ++ away ∷ [],
      push.ensures.items ∙ ap (λ s. s ++ Some away ∷ []) old.1 ∙ ap (λ xs. None ∷ xs) (one_waits others away),
      old.2 ∙ ap (λ xs. c.remove-seat.result ∷ (map seat_of others ++ xs)) seats ∙ ap (λ xs. c.remove-seat.result ∷ xs) (one_laid seat_of others away seat.new.self.items),
      old.3 ∙ ap (λ xs. c.remove-ticket.result ∷ (map ticket_of others ++ xs)) tickets ∙ ap (λ xs. c.remove-ticket.result ∷ xs) (one_laid ticket_of others away ticket.new.self.items),
      omega (arith, ap length seats, ap length tickets, old.4),
      omega (arith, ap length seats, ap length push.ensures.items, push.ensures.capacity, old.5),
      omega (arith, seat.ensures.capacity, old.6),
      omega (arith, ticket.ensures.capacity, old.7),
    )
