use Rattle.std.proofs.Common.{◌≡◌, ◌∙◌, refl, sym, ap, subst, arith, length, length-set}
use Rattle.std.proofs.lemmas.Option.{slice_get_within}
use Rattle.std.specs.Prelude.{Some, None, slice_set}
use Rattle.std.specs.Arc.{arc_value}
use Rattle.spin_c.specs.Waiting.{IsAwayAt, IsWellLane}
use Rattle.spin_c.proofs.Sharing.{left_well, put_back, set_back, shared_well, waits_at}
use Rattle.spin_c.proofs.handing.share.Goals as goal

pub returns-in-Ok-new-clause-well : goal.returns-in-Ok-new-clause-well
returns-in-Ok-new-clause-well g c = rw c.in_ok-away.ensures.left (left_well c.args.lane.now c.from-at.result c.requires.well)

pub returns-in-Ok-new-clause-share_well : goal.returns-in-Ok-new-clause-share_well
returns-in-Ok-new-clause-share_well g c =
    rw c.in-Ok-new.ensures.ok (
      shared_well c.args.lane.now _ _ _ _ c.from-at.result c.requires.well c.in_ok-away.ensures.taken c.in-Ok.ensures c.new-2.ensures,
      rw c.new.ensures tt,
    )

pub returns-in-Ok-new-clause-shares : goal.returns-in-Ok-new-clause-shares
returns-in-Ok-new-clause-shares g c =
    let l = c.args.lane.now in
    let is = waits_at (IsAwayAt (arc_value l.party) l.away.seat.base) l.waiting c.from-at.result c.in_ok-away.away c.requires.well.0.others c.in_ok-away.ensures.taken in
    rw c.in-Ok-new.ensures.ok (record {
      waited = rw c.from-at.ensures at c.in_ok-away.ensures.taken;
      left = ap (λ w. record l { waiting = w }) (rw c.from-at.ensures at c.in_ok-away.ensures.left);
      lane = is.1.lane_is ∙ c.from-at.ensures;
      party = c.in-Ok.ensures;
      lanes = refl;
      fresh = (c.new.ensures, c.new-2.ensures, c.new-3.ensures);
    })

pub returns-in_default-clause-well : goal.returns-in_default-clause-well
returns-in_default-clause-well g c =
    let l = c.args.lane.now in let at = c.from-at.result in let away = c.in_ok-away.away in
    let back : c.replace.new.self ≡ l.waiting = c.replace.ensures ∙ ap (λ w. slice_set w at (Some away)) c.in_ok-away.ensures.left
    ∙ put_back l.waiting at (Some away) None c.in_ok-away.ensures.taken in
    subst (λ a. IsWellLane a) (sym (set_back l c.replace.new.self back)) c.requires.well

pub returns-in_default-clause-shares : goal.returns-in_default-clause-shares
returns-in_default-clause-shares g c =
    let l = c.args.lane.now in let at = c.from-at.result in let away = c.in_ok-away.away in
    let back : c.replace.new.self ≡ l.waiting = c.replace.ensures ∙ ap (λ w. slice_set w at (Some away)) c.in_ok-away.ensures.left
    ∙ put_back l.waiting at (Some away) None c.in_ok-away.ensures.taken in
    (set_back l c.replace.new.self back, (away, rw c.from-at.ensures at c.in_ok-away.ensures.taken))

pub replace-requires-in-Err : goal.replace-requires-in-Err
replace-requires-in-Err g c =
    let slots = c.args.lane.now.waiting in let at = c.from-at.result in
    let inside = slice_get_within slots at (Some c.in_ok-away.away) c.in_ok-away.ensures.taken in
    let left = ap length c.in_ok-away.ensures.left in
    omega (arith, inside, left, length-set slots at None)

pub returns-in-Lane-clause-well : goal.returns-in-Lane-clause-well
returns-in-Lane-clause-well g c =
    let l = c.args.lane.now in let at = c.from-at.result in let away = c.in_ok-away.away in
    let back : c.replace-in-Err.new.self ≡ l.waiting =
    (rw c.in-Err.ensures.value_returned at c.replace-in-Err.ensures)
    ∙ ap (λ w. slice_set w at (Some away)) c.in_ok-away.ensures.left ∙ put_back l.waiting at (Some away) None c.in_ok-away.ensures.taken in
    subst (λ a. IsWellLane a) (sym (set_back l c.replace-in-Err.new.self back)) c.requires.well

pub returns-in-Lane-clause-shares : goal.returns-in-Lane-clause-shares
returns-in-Lane-clause-shares g c =
    let l = c.args.lane.now in let at = c.from-at.result in let away = c.in_ok-away.away in
    let back : c.replace-in-Err.new.self ≡ l.waiting =
    (rw c.in-Err.ensures.value_returned at c.replace-in-Err.ensures)
    ∙ ap (λ w. slice_set w at (Some away)) c.in_ok-away.ensures.left ∙ put_back l.waiting at (Some away) None c.in_ok-away.ensures.taken in
    (set_back l c.replace-in-Err.new.self back, (away, rw c.from-at.ensures at c.in_ok-away.ensures.taken))
