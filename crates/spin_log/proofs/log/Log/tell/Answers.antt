use Rattle.std.proofs.Common.{rules, arith, ap, length, ◌∙◌, sym, subst, ◌≡◌}
use Rattle.spin_log.specs.Pens.{PenValue}
use Rattle.spin_log.specs.Inner.Seats.{NoteValue, IsPenSeat}
use Rattle.spin_log.specs.Steps.{AreOfOne}
use Rattle.spin_log.proofs.SharedViews.{joins}
use Rattle.spin_log.proofs.LearnedFronts.{learns}
use Rattle.spin_log.proofs.PenNotes.{tells_one, tells_seat, longer_note}
use Rattle.spin_log.proofs.log.Log.tell.Goals as goal

pub join_seat-requires : goal.join_seat-requires
join_seat-requires c = (search rules, search rules, search rules, omega arith, joins _ _ _ _ _)

pub load-requires : goal.load-requires
load-requires c = (search rules, omega arith, learns _ _ _ _ (search rules))

pub invariant_of-pen : goal.invariant_of-pen
invariant_of-pen c =
    let same : c.load.new.seat.table_id ≡ c.pen.inside.seat.table_id = search rules in
    let longer_is = longer_note _ _ _ _ _ _ _ _ _ c.pen.invariant c.note.invariant c.join_seat.ensures.2 c.load.ensures.2 c.if-pen-length.true in
    subst (λ t. IsPenSeat t c.load.new.seat.me c.pen.inside.lane c.note.inside.length c.pen.inside.published) (sym same)
    (tells_seat _ _ _ _ _ _ _ _ _ c.pen.invariant c.note.invariant c.join_seat.ensures.2 c.load.ensures.2 _ (ap length longer_is ∙ c.note.invariant.front) c.note.invariant.room)

pub returns-then-pen-length-clause-one : goal.returns-then-pen-length-clause-one
returns-then-pen-length-clause-one c =
    subst (λ (x : PenValue × NoteValue). AreOfOne x.0.front x.1.front) (λ i. (c.pen.view_is i, c.note.view_is i))
    (tells_one _ _ _ _ _ _ _ _ _ c.pen.invariant c.note.invariant c.join_seat.ensures.2 c.load.ensures.2)

pub returns-else-pen-length-clause-one : goal.returns-else-pen-length-clause-one
returns-else-pen-length-clause-one c =
    subst (λ (x : PenValue × NoteValue). AreOfOne x.0.front x.1.front) (λ i. (c.pen.view_is i, c.note.view_is i))
    (tells_one _ _ _ _ _ _ _ _ _ c.pen.invariant c.note.invariant c.join_seat.ensures.2 c.load.ensures.2)
