use Rattle.std.proofs.Common.{rules, arith, ap}
use Rattle.spin_log.specs.Pens.{PenValue}
use Rattle.spin_log.proofs.LogReads.{looks}
use Rattle.spin_log.proofs.PenSeats.{seat_pins, found_inside, stays_read, says}
use Rattle.spin_log.proofs.log.Log.look.Goals as goal

-- the log word after the front
pub load-name-requires : goal.load-name-requires
load-name-requires c = (search rules, omega arith, looks _ _ _ _ _ _ c.pen.invariant.alone (omega arith))

-- there is no next row
pub invariant_of-pen : goal.invariant_of-pen
invariant_of-pen c = seat_pins _ _ _ _ _ _ _ c.pen.invariant (c.load-name.ensures.2.0 c.if-name-eq0.true) (search rules)

pub row-row-requires-clause-name : goal.row-row-requires-clause-name
row-row-requires-clause-name c =
    let inside = found_inside _ _ _ _ _ _ _ _ c.pen.invariant c.pen.invariant.alone _ (c.load-name.ensures.2.1 c.if-name-eq0.false) in
    let log = ap (λ (p : PenValue). p.log.words) c.pen.view_is in
    let same = ap (λ t. t.words) c.requires in
    (inside.0, inside.1, omega arith)

pub invariant_of-pen-2 : goal.invariant_of-pen-2
invariant_of-pen-2 c = stays_read _ _ _ _ _ _ _ _ c.pen.invariant c.pen.invariant.alone _ (c.load-name.ensures.2.1 c.if-name-eq0.false) _ _ (search rules) c.row-row.ensures.seat.1

pub returns-clause-answer : goal.returns-clause-answer
returns-clause-answer c =
    says _ _ _ _ _ _ _ _ c.pen.invariant c.pen.invariant.alone _ (c.load-name.ensures.2.1 c.if-name-eq0.false) _ _ _ _ (search rules) c.row-row.ensures.seat.1 c.pen.view_is c.row-row.ensures.row
