use Rattle.std.proofs.Common.{List, sym, subst}
use Rattle.spin_gen.specs.Drafts.{Draft}
use Rattle.spin_gen.specs.Inner.Writing.{Writes}
use Rattle.spin_gen.proofs.ScriptText.{writes_none, writes_line, writes_more, lane_none, lane_more}
use Rattle.spin_gen.proofs.script.put_lane.Goals as goal

pub loop-number-init : goal.loop-number-init
loop-number-init c =
    subst (λ (ds : List Draft). Writes c.args.out.now c.args.draws.now ds c.args.out.now c.args.draws.now) (sym (lane_none c.args.lane)) (writes_none _ _)

pub loop-number-preserved : goal.loop-number-preserved
loop-number-preserved c =
    subst (λ (ds : List Draft). Writes c.args.out.now c.args.draws.now ds c.put_line.new.out c.put_line.new.draws) (sym (lane_more c.loop-number.number c.args.lane))
    (writes_more _ _ _ _ _ _ _ _ c.loop-number.invariant (writes_line _ _ _ _ _ c.in_ok-put_line.ensures.text c.in_ok-put_line.ensures.state))
