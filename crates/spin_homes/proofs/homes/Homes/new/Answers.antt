use Rattle.std.proofs.Common.{rules, arith, ap, sym, subst, ◌≡◌, ◌+◌, [], ◌∷◌, List, length, length-append}
use Rattle.spin_homes.specs.Rule.{TicketValue, AreTicketsFrom}
use Rattle.spin_homes.proofs.Steps.{ticket_more}
use Rattle.spin_homes.proofs.homes.Homes.new.Goals as goal

pub loop-slot-preserved : goal.loop-slot-preserved
loop-slot-preserved g c =
    let inv = c.loop-slot.invariant in
    let more = c.push_reserved.ensures.items in
    let own = c.in-Some.ensures.ticket in
    let at : c.in-Some.ticket.slot ≡ 0 + length c.loop-slot.tickets.items = omega (arith, inv.1, own.1) in
    let count = length-append c.loop-slot.tickets.items (c.in-Some.ticket ∷ []) in (
      subst (λ (l : List TicketValue). AreTicketsFrom c.in_ok-homes.homes.table.shared.table_id 0 l) (sym more) (ticket_more _ 0 c.loop-slot.tickets.items c.in-Some.ticket inv.0 own.0 at),
      omega (arith, inv.1, count, ap (λ (l : List TicketValue). length l) more),
      search rules,
    )
