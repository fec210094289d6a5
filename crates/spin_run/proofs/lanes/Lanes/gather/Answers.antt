use Rattle.std.proofs.Common.{◌∷◌, ◌++◌, [], get_or, refl, ap, ◌∙◌, arith}
use Rattle.spin_run.specs.declared.trail.Trail.{Trail}
use Rattle.spin_run.proofs.GatheredTrails.{gathers, cut_stops}
use Rattle.spin_run.proofs.lanes.Lanes.gather.Goals as goal

pub loop-lane-preserved : goal.loop-lane-preserved
loop-lane-preserved c =
    let own = (get_or c.loop-lane.lane-items c.loop-lane.lane-index c.lane-item.result).trail in
    let taken : Trail = record { text = own.text; sends = own.sends; marks = c.take_over.new.own } in
    gathers c.args.self.now c.loop-lane.lane-items c.loop-lane.lane-index c.loop-lane.trails c.push.new.self c.loop-lane.marks c.take_over.new.marks
    c.loop-lane.jobs c.append.new.self c.lane-item.result _
    (omega (arith, c.loop-lane-test.true, c.loop-lane.invariant.count)) c.loop-lane.invariant (c.replace.ensures.after ∙ c.new.ensures, c.in_ok-append.ensures.ok.1)
    (c.in_ok-push.ensures.ok ∙ ap (λ (t : Trail). c.loop-lane.trails ++ t ∷ []) (c.replace.ensures.value ∙ (λ h. record taken { marks = c.in_ok-take_over.ensures.1 h })))
    c.in_ok-take_over.ensures.0 c.in_ok-append.ensures.ok.0 refl refl refl

pub returns-in_err-take_over-clause-stops : goal.returns-in_err-take_over-clause-stops
returns-in_err-take_over-clause-stops c =
    let now = c.loop-lane.invariant in
    cut_stops c.args.self.now _ c.loop-lane.lane-items _ c.loop-lane.lane-index c.lane-item.result _ c.self.view_is c.self.inside.items.ok.0 now.count now.stops
    (omega (arith, c.loop-lane-test.true, now.count)) refl

pub returns-in_err-push-clause-stops : goal.returns-in_err-push-clause-stops
returns-in_err-push-clause-stops c =
    let now = c.loop-lane.invariant in
    cut_stops c.args.self.now _ c.loop-lane.lane-items _ c.loop-lane.lane-index c.lane-item.result _ c.self.view_is c.self.inside.items.ok.0 now.count now.stops
    (omega (arith, c.loop-lane-test.true, now.count)) refl

pub returns-in_err-append-clause-stops : goal.returns-in_err-append-clause-stops
returns-in_err-append-clause-stops c =
    let now = c.loop-lane.invariant in
    cut_stops c.args.self.now _ c.loop-lane.lane-items _ c.loop-lane.lane-index c.lane-item.result _ c.self.view_is c.self.inside.items.ok.0 now.count now.stops
    (omega (arith, c.loop-lane-test.true, now.count)) refl
