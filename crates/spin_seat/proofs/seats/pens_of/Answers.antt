use Rattle.std.proofs.Common.{◌∙◌, ◌++◌, ◌∷◌, [], ap, length, arith, length-append}
use Rattle.std.specs.Prelude.{map}
use Rattle.spin_log.specs.Pens.{PenValue}
use Rattle.spin_seat.specs.Seats.{SeatValue}
use Rattle.spin_seat.proofs.SeatInvariants.{pens_more}
use Rattle.spin_seat.proofs.seats.pens_of.Goals as goal

pub loop-seat-init : goal.loop-seat-init
loop-seat-init c =
    let room = c.requires.room in (
      ap (λ l. l ++ map (λ (s : SeatValue). s.pen) c.args.seats) c.requires.empty,
      omega (arith, room, ap length c.requires.empty),
    )

pub push_reserved-requires : goal.push_reserved-requires
push_reserved-requires c = let room = c.loop-seat.invariant.1 in omega (arith, room, ap length c.in-Some.ensures)

pub loop-seat-preserved : goal.loop-seat-preserved
loop-seat-preserved c =
    let pushed = c.push_reserved.ensures.items ∙ ap (λ (p : PenValue). c.loop-seat.pens.items ++ p ∷ []) (ap (λ (s : SeatValue). s.pen) c.seat.view_is) in
    let more = length-append c.loop-seat.pens.items (c.in-Some.seat.pen ∷ []) in
    let room = c.loop-seat.invariant.1 in
    let capacity = c.push_reserved.ensures.capacity in (
      pens_more c.loop-seat.pens.items c.push_reserved.new.self.items (map (λ (s : SeatValue). s.pen) c.args.seats) c.in-Some.seat c.loop-seat.seats c.take_first.new.self
          c.loop-seat.invariant.0 c.in-Some.ensures pushed,
      omega (arith, room, capacity, more, ap length pushed, ap length c.in-Some.ensures),
    )
