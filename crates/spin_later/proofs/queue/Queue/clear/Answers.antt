use Rattle.crossbeam_queue.specs.Passes.{view}
use Rattle.spin_later.proofs.QueueSteps.{clears, learns}
use Rattle.spin_later.proofs.NewPasses.{still_all, still_some, cleared}
use Rattle.spin_later.proofs.queue.Queue.clear.Goals as goal

pub pop_as-requires-clause-rule : goal.pop_as-requires-clause-rule
pop_as-requires-clause-rule g c =
    let v = view c.args.taker.now in
    let w = view c.loop.taker in
    let is = c.loop.invariant.4 in
    let agreed = g.A.Agreement.allows in
    let has = still_some v w c.loop.left is c.requires.some in
    (clears agreed _ w (still_all v w c.loop.left is c.requires.all) has, learns agreed _ w has)

pub returns-in-None-pop_as-clause-history : goal.returns-in-None-pop_as-clause-history
returns-in-None-pop_as-clause-history g c = cleared (view c.args.taker.now) (view c.loop.taker) c.loop.left c.loop.invariant.4 c.in-None-pop_as.ensures.rule.1
