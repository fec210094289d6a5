use Rattle.std.proofs.Common.{List, ◌∷◌, sym, subst}
use Rattle.spin_grammar.specs.Lines.{Barrier}
use Rattle.spin_gen.specs.Drafts.{Draft, Stated}
use Rattle.spin_gen.specs.Inner.Writing.{Writes}
use Rattle.spin_gen.proofs.DrawLemmas.{none_after}
use Rattle.spin_gen.proofs.ScriptText.{writes_line, writes_more, segment_none, segment_more}
use Rattle.spin_gen.proofs.script.put_segment.Goals as goal

pub loop-lane-init : goal.loop-lane-init
loop-lane-init c =
    subst (λ (ds : List Draft). Writes c.args.out.now c.args.draws.now (Stated Barrier ∷ ds) c.put_barrier.new.out c.args.draws.now) (sym segment_none)
    (writes_line _ _ (Stated Barrier) _ _ c.in_ok-put_barrier.ensures (sym (none_after _)))

pub loop-lane-preserved : goal.loop-lane-preserved
loop-lane-preserved c =
    subst (λ (ds : List Draft). Writes c.args.out.now c.args.draws.now (Stated Barrier ∷ ds) c.put_lane.new.out c.put_lane.new.draws) (sym (segment_more c.loop-lane.lane))
    (writes_more _ _ _ _ _ _ _ _ c.loop-lane.invariant c.in_ok-put_lane.ensures)
