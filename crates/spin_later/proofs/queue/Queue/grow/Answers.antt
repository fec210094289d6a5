use Rattle.std.proofs.Common.{◌∙◌, arith}
use Rattle.crossbeam_queue.specs.Passes.{view}
use Rattle.spin_later.proofs.NewPasses.{grows_at, grown}
use Rattle.spin_later.proofs.queue.Queue.grow.Goals as goal

pub another-requires-clause-rule : goal.another-requires-clause-rule
another-requires-clause-rule g c = grows_at g.A.Agreement.allows _ c.loop.counter (view c.loop.maker) c.loop.invariant.2 c.loop.invariant.3

pub loop-preserved : goal.loop-preserved
loop-preserved g c =
    let kept = c.another.ensures.queue.0 in
    (kept.0 ∙ c.loop.invariant.0, kept.2 ∙ c.loop.invariant.1, c.another.ensures.rule.0 ∙ grown c.loop.counter (view c.loop.maker) c.loop.invariant.2, omega arith)
