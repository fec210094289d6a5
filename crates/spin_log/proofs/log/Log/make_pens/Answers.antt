use Rattle.std.proofs.Common.{rules, arith, ◌≡◌, ◌∙◌, ap, sym, [], ◌∷◌, ◌++◌}
use Rattle.atomic_table.specs.Seated.{TableId}
use Rattle.spin_log.specs.declared.view.View.{View}
use Rattle.spin_log.specs.Rule.{holding, new_hand}
use Rattle.spin_log.specs.Pens.{LogValue, pen_value, only_hand}
use Rattle.spin_log.proofs.SharedViews.{splits_pen}
use Rattle.spin_log.proofs.NewPens.{first_of, rest_of, new_seat, pens-push, pen_value_of}
use Rattle.spin_log.proofs.log.Log.make_pens.Goals as goal

pub split_seat-seat-requires : goal.split_seat-seat-requires
split_seat-seat-requires c = (search rules, omega arith, splits_pen _ _ _)

pub invariant_of-push : goal.invariant_of-push
invariant_of-push c =
    let same : c.split_seat-seat.result.table_id ≡ c.args.self.now.id = c.split_seat-seat.ensures.3 ∙ c.loop-lane.invariant.0 in
    let words = ap (λ (id : TableId). id.words) same in
    let size = ap (λ (l : LogValue). l.id.words) c.self.view_is in
    let key = ap (λ (l : LogValue). l.lanes) c.self.view_is in
    let lanes = c.requires.lanes in
    new_seat _ _ c.args.lanes _ (omega arith) (omega arith) c.loop-lane-test.true
    (c.split_seat-seat.ensures.4 ∙ ap (λ (v : View). (v, [])) (first_of _ _ c.loop-lane.maker.me c.loop-lane-test.true c.loop-lane.invariant.1))

pub loop-lane-preserved : goal.loop-lane-preserved
loop-lane-preserved c =
    let id = c.args.self.now.id in
    let seat = c.split_seat-seat.result in
    let same : seat.table_id ≡ id = c.split_seat-seat.ensures.3 ∙ c.loop-lane.invariant.0 in
    let alone : seat.me ≡ (holding (new_hand c.args.lanes c.loop-lane.lane ∷ []), []) =
    c.split_seat-seat.ensures.4 ∙ ap (λ (v : View). (v, [])) (first_of _ _ c.loop-lane.maker.me c.loop-lane-test.true c.loop-lane.invariant.1) in
    let pen : pen_value seat.table_id (only_hand seat.me.0.hands) ≡ pen_value id (new_hand c.args.lanes c.loop-lane.lane) =
    ap (λ (z : TableId). pen_value z (only_hand seat.me.0.hands)) same ∙ pen_value_of id seat.me c.args.lanes c.loop-lane.lane alone in (
      c.split_seat-seat.ensures.0 ∙ c.loop-lane.invariant.0,
      c.split_seat-seat.ensures.2 ∙ rest_of _ _ c.loop-lane.maker.me c.loop-lane-test.true c.loop-lane.invariant.1,
      c.in_ok-push.ensures.ok ∙ (λ i. c.loop-lane.invariant.2 i ++ pen i ∷ []) ∙ sym (pens-push id c.args.lanes c.loop-lane.lane),
    )
