use Rattle.std.proofs.Common.{rules, arith, ap, refl}
use Rattle.spin_log.specs.Pens.{PenValue, only_hand}
use Rattle.spin_log.proofs.PublishedRows.{publishes}
use Rattle.spin_log.proofs.PenSeats.{own_room, command_of, found_inside, stays_read, says, seat_writes}
use Rattle.spin_log.proofs.log.Log.publish.Goals as goal

pub draft-requires-clause-room : goal.draft-requires-clause-room
draft-requires-clause-room c = own_room _ _ _ _ _ c.pen.invariant (omega arith)

pub draft-requires-clause-name : goal.draft-requires-clause-name
draft-requires-clause-name c =
    let room = own_room _ _ _ _ _ c.pen.invariant (omega arith) in
    let log = ap (λ (p : PenValue). p.log.words) c.pen.view_is in
    let same = ap (λ t. t.words) c.requires.log in
    let p = c.pen.invariant in
    let few = p.pen.few in
    let below = p.pen.below in
    let size = p.table in
    let lane = p.lane_is in
    let rows = p.rows in
    (omega arith, omega arith, omega arith)

-- 0 is exchanged for the name of the draft's row
pub compare_exchange-found-requires : goal.compare_exchange-found-requires
compare_exchange-found-requires c = (
  search rules,
  omega arith,
  publishes _ _ _ _ _ _ _ c.draft.ensures.drafted (omega arith)
      (omega arith) (omega arith) refl (command_of _ (only_hand c.pen.inside.seat.me.0.hands) _ _ c.pen.view_is c.requires.row),
)

pub overflow_add-pen-then-found-eq0 : goal.overflow_add-pen-then-found-eq0
overflow_add-pen-then-found-eq0 c = let room = own_room _ _ _ _ _ c.pen.invariant (omega arith) in omega arith

pub invariant_of-pen : goal.invariant_of-pen
invariant_of-pen c =
    seat_writes _ _ _ _ _ _ _ _ c.args.row c.pen.invariant c.draft.ensures.drafted (c.compare_exchange-found.ensures.2.0 c.if-found-eq0.true)
    (omega arith) (command_of _ (only_hand c.pen.inside.seat.me.0.hands) _ _ c.pen.view_is c.requires.row) (search rules)

pub row-other-requires-clause-name : goal.row-other-requires-clause-name
row-other-requires-clause-name c =
    let inside = found_inside _ _ _ _ _ _ _ _ c.pen.invariant c.draft.ensures.drafted _ (c.compare_exchange-found.ensures.2.1 c.if-found-eq0.false) in
    let log = ap (λ (p : PenValue). p.log.words) c.pen.view_is in
    let same = ap (λ t. t.words) c.requires.log in
    (inside.0, inside.1, omega arith)

pub invariant_of-pen-2 : goal.invariant_of-pen-2
invariant_of-pen-2 c = stays_read _ _ _ _ _ _ _ _ c.pen.invariant c.draft.ensures.drafted _ (c.compare_exchange-found.ensures.2.1 c.if-found-eq0.false) _ _ (search rules) c.row-other.ensures.seat.1

pub returns-clause-answer : goal.returns-clause-answer
returns-clause-answer c = says _ _ _ _ _ _ _ _ c.pen.invariant c.draft.ensures.drafted _ (c.compare_exchange-found.ensures.2.1 c.if-found-eq0.false)
    _ _ _ _ (search rules) c.row-other.ensures.seat.1 c.pen.view_is c.row-other.ensures.row
