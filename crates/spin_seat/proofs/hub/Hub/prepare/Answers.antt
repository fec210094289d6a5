use Rattle.std.proofs.Common.{◌≡◌, ◌∙◌, ◌+◌, ◌<◌, ◌≤◌, ℕ, sym, subst, length, arith, vec_capacity}
use Rattle.std.specs.Prelude.{All, map}
use Rattle.std.proofs.lemmas.List.{get_or_default}
use Rattle.spin_log.specs.Pens.{new_pens}
use Rattle.spin_table.specs.SetupOf.{data_of}
use Rattle.spin_table.specs.Renewals.{renewed}
use Rattle.spin_seat.specs.Seats.{SeatValue, IsSeatFrom}
use Rattle.spin_seat.proofs.SeatRenewals.{still_order, last_lane}
use Rattle.spin_seat.specs.Homes.{AreFor}
use Rattle.spin_seat.proofs.hub.Hub.prepare.Goals as goal

pub returns-clause-lanes : goal.returns-clause-lanes
returns-clause-lanes g c =
    let know = c.in_ok-gather.ensures.seats in
    let all = c.requires.all in
    let order = still_order (data_of c.args.self.now.setup) c.args.seats.now c.gather.new.seats know all.order in
    let last = last_lane c.gather.new.seats c.index-seats-seats.result c.args.self.now.log.lanes order (know.0 ∙ all.all) all.some in
    let lane = c.lane-lanes.ensures.lane in
    let lanes : c.lane-lanes.result + 1 ≡ c.args.self.now.log.lanes = omega (arith, last, lane) in
    c.in_ok-ready.ensures.lanes ∙ lanes

pub returns-clause-pens : goal.returns-clause-pens
returns-clause-pens g c =
    let ready = c.in_ok-ready.field-0 in
    subst (λ (n : ℕ). map (λ (s : SeatValue). s.pen) ready.seats ≡ new_pens ready.log.id n) (sym c.in_ok-ready.ensures.lanes ∙ returns-clause-lanes g c) c.in_ok-ready.ensures.pens

pub returns-clause-seats : goal.returns-clause-seats
returns-clause-seats g c = λ seat.
    let know = c.in_ok-gather.ensures.seats in
    let all = c.requires.all in
    let some = all.some in
    let inside : 0 < length c.gather.new.seats = omega (arith, some, all.all, know.0) in
    subst (λ (s : SeatValue). All (IsSeatFrom (data_of c.args.self.now.setup) (renewed s.state)) c.in_ok-ready.field-0.seats)
    (get_or_default c.gather.new.seats 0 c.index-seats-0.result seat inside) c.in_ok-ready.ensures.seats

pub returns-clause-homes : goal.returns-clause-homes
returns-clause-homes g c =
    let ready = c.in_ok-ready.field-0 in
    subst (λ (n : ℕ). AreFor n ready.homes.table.shared.table_id ready.tickets) (sym c.in_ok-ready.ensures.lanes ∙ returns-clause-lanes g c) c.in_ok-ready.ensures.homes

pub returns-clause-room : goal.returns-clause-room
returns-clause-room g c =
    subst (λ (n : ℕ). n ≤ vec_capacity c.in_ok-ready.field-0.room.pens) (sym c.in_ok-ready.ensures.lanes ∙ returns-clause-lanes g c) c.in_ok-ready.ensures.room
