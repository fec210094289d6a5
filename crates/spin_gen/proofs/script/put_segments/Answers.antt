use Rattle.std.proofs.Common.{List, sym, subst}
use Rattle.spin_gen.specs.Drafts.{Draft}
use Rattle.spin_gen.specs.Inner.Writing.{Writes}
use Rattle.spin_gen.proofs.ScriptText.{writes_none, writes_more, segments_none, segments_more}
use Rattle.spin_gen.proofs.script.put_segments.Goals as goal

pub loop-init : goal.loop-init
loop-init c =
    subst (λ (ds : List Draft). Writes c.args.out.now c.args.draws.now ds c.args.out.now c.args.draws.now) (sym segments_none) (writes_none _ _)

pub loop-preserved : goal.loop-preserved
loop-preserved c =
    subst (λ (ds : List Draft). Writes c.args.out.now c.args.draws.now ds c.put_segment.new.out c.put_segment.new.draws) (sym (segments_more _))
    (writes_more _ _ _ _ _ _ _ _ c.loop.invariant c.in_ok-put_segment.ensures)
