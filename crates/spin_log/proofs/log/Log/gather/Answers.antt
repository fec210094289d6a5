use Rattle.std.proofs.Common.{rules, arith, ap, ◌∙◌, sym, ◌≡◌, []}
use Rattle.atomic_table.specs.Seated.{TableId}
use Rattle.spin_log.specs.Rule.{first_view}
use Rattle.spin_log.specs.Pens.{PenValue, LogValue, pen_value, only_hand}
use Rattle.spin_log.proofs.SharedViews.{joins, sits}
use Rattle.spin_log.proofs.PenNotes.{gathers, popped_log}
use Rattle.spin_log.proofs.log.Log.gather.Goals as goal

pub load_new_seat-taker-requires : goal.load_new_seat-taker-requires
load_new_seat-taker-requires c = (omega arith, sits _ _ _ (first_view c.self.inside.table.shared.key, []))

pub join_seat-requires : goal.join_seat-requires
join_seat-requires c =
    let log = popped_log c.args.self.now.id _ _ _ _ c.in-Some.pen c.in-Some.ensures.items c.loop-pen.invariant.2 c.requires in
    (search rules, ap (λ (p : PenValue). p.log) c.pen.view_is ∙ log ∙ sym (ap (λ (l : LogValue). l.id) c.self.view_is), search rules, omega arith, joins _ _ _ _ _)

pub loop-pen-preserved : goal.loop-pen-preserved
loop-pen-preserved c =
    let id : TableId = c.args.self.now.id in
    let log = popped_log id _ _ _ _ c.in-Some.pen c.in-Some.ensures.items c.loop-pen.invariant.2 c.requires in
    let same : c.pen.inside.seat.table_id ≡ id = ap (λ (p : PenValue). p.log) c.pen.view_is ∙ log in (
      search rules,
      search rules,
      gathers id _ _ _ c.in-Some.pen _ _ _ c.in-Some.ensures.items c.pen.invariant.alone
          (ap (λ (z : TableId). pen_value z (only_hand c.pen.inside.seat.me.0.hands)) (sym same) ∙ c.pen.view_is) c.join_seat.ensures.2 c.loop-pen.invariant.2,
    )
