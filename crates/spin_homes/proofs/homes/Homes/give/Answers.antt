use Rattle.std.proofs.Common.{rules, ap, sym, subst, ◌∙◌, ◌≡◌, ◌<◌, ℕ, [], ◌∷◌}
use Rattle.std.specs.Prelude.{Some}
use Rattle.atomic_table.specs.Seated.{TableId}
use Rattle.atomic_table.specs.Table.{rest}
use Rattle.spin_homes.specs.Rule.{TicketValue}
use Rattle.spin_homes.proofs.Steps as keeps
use Rattle.spin_homes.proofs.homes.Homes.give.Goals as goal

pub store-requires : goal.store-requires
store-requires g c =
    let same : c.ticket.inside.seat.table_id ≡ c.args.self.now.table.shared.table_id = ap (λ (t : TicketValue). t.table) c.ticket.view_is ∙ c.requires.table in
    let slot : c.ticket.inside.slot ≡ c.args.ticket.slot = ap (λ (t : TicketValue). t.slot) c.ticket.view_is in
    let lt : c.ticket.inside.slot < c.args.self.now.table.shared.table_id.slots = subst (λ (z : TableId). c.ticket.inside.slot < z.slots) same c.ticket.invariant.1 in
    let fit = subst (λ (k : ℕ). g.M.Fit.fits c.args.self.now.table.shared.key k c.args.value) (sym slot) c.requires.fits in
    let out : c.exchange.new.seat.me.1 ≡ (c.ticket.inside.slot, Some c.args.value) ∷ [] =
    ap (λ m. m.1) c.exchange.ensures.3 ∙ ap (λ l. (c.ticket.inside.slot, Some c.args.value) ∷ rest l) c.ticket.invariant.0 in
    (search rules, search rules, keeps.gives_home _ _ _ _ _ _ c.args.value lt out fit)
