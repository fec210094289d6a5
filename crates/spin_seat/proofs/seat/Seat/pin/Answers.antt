use Rattle.std.proofs.Common.{[], ◌∷◌, ◌∙◌, sym, ap, subst, length, arith, length-append}
use Rattle.spin_log.specs.Pens.{PenValue}
use Rattle.spin_log.proofs.RowLists.{rows_of_other}
use Rattle.spin_seat.specs.Calls.{ReadsOn}
use Rattle.spin_seat.proofs.SeatCalls.{reads_further}
use Rattle.spin_seat.proofs.seat.Seat.pin.Goals as goal

pub loop-self-preserved : goal.loop-self-preserved
loop-self-preserved g c =
    let read = subst (ReadsOn c.args.self.now.pen) (sym c.in_ok-apply.ensures.pen) c.loop-self.invariant.0 in
    let row = c.in_default.field-0 in
    let look = c.in_default.ensures.look in
    let before = c.loop-self.invariant.3 in
    let same = ap (λ (p : PenValue). length p.front) c.in_ok-apply.ensures.pen in
    let longer = ap (λ (p : PenValue). length p.front) look.0 in
    let one = length-append c.apply.new.self.pen.front (row ∷ []) in
    let tick = c.tick.ensures in (
      reads_further c.args.self.now.pen c.apply.new.self.pen c.read.new.self.pen read (row ∷ [], look.0, rows_of_other c.apply.new.self.pen.lane row look.1.1),
      c.in_default.ensures.seat,
      c.in_default.ensures.first ∙ c.in_ok-apply.ensures.first ∙ c.loop-self.invariant.2,
      omega (arith, before, same, longer, one, tick),
    )
