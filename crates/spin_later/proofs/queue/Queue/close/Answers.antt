use Rattle.crossbeam_queue.specs.Passes.{view}
use Rattle.spin_later.proofs.NewPasses.{has_all}
use Rattle.spin_later.proofs.queue.Queue.close.Goals as goal

pub clear-requires-clause-all : goal.clear-requires-clause-all
clear-requires-clause-all g c κs within = has_all c.args.self.parties c.args.parties (view c.gather-taker.result) c.gather-taker.ensures.all c.requires.all
