use Rattle.std.proofs.Common.{arith, ◌≡◌, ℕ, subst}
use Rattle.std.specs.Prelude.{IfOk}
use Rattle.spin.specs.Pens.{IsSamePen}
use Rattle.spin.specs.SetupOf.{data_of}
use Rattle.spin.specs.Seats.{SeatValue, IsSeat}
use Rattle.spin.proofs.SeatPairs.{both_still}
use Rattle.host_renewal.proofs.round.Goals as goal

pub take_turns-bound-requires-clause-logs : goal.take_turns-bound-requires-clause-logs
take_turns-bound-requires-clause-logs g c κs within = (c.requires.all.own 0 c.args.course.a (omega arith), c.requires.all.own 1 c.args.course.b (omega arith))

pub take_turns-bound-requires-clause-seat_a : goal.take_turns-bound-requires-clause-seat_a
take_turns-bound-requires-clause-seat_a g c κs within = (c.requires.all.seats_are 0 c.args.course.a (omega arith)).0

pub take_turns-bound-requires-clause-seat_b : goal.take_turns-bound-requires-clause-seat_b
take_turns-bound-requires-clause-seat_b g c κs within = (c.requires.all.seats_are 1 c.args.course.b (omega arith)).0

pub take_turns-bound-requires-clause-lane : goal.take_turns-bound-requires-clause-lane
take_turns-bound-requires-clause-lane g c κs within = c.requires.all.order.0

pub renew-requires-clause-all : goal.renew-requires-clause-all
renew-requires-clause-all g c =
    let d = data_of c.args.course.hub.setup in
    let P = λ (before after : SeatValue). IsSamePen before.pen after.pen × (after.base ≡ before.base) × IsSeat d after in
    let a = c.args.course.a in
    let b = c.args.course.b in
    let bound = subst (λ r. IfOk r (λ (after : SeatValue). P a after)) c.in_ok-a.ensures.a c.take_turns-bound.ensures.a in
    let raised = subst (λ r. IfOk r (λ (after : SeatValue × ℕ). P b after.0)) c.in_ok-a.ensures.b c.take_turns-bound.ensures.b in
    both_still d c.args.course.hub.log a b c.in_ok-a.a c.in_ok-a.b c.requires.all bound.0 bound.1 bound.2 raised.0 raised.1 raised.2
