use Rattle.spin_later.proofs.QueueSteps.{opens}
use Rattle.spin_later.proofs.queue.Queue.new.Goals as goal

pub ruled-requires-clause-rule : goal.ruled-requires-clause-rule
ruled-requires-clause-rule g c = opens g.A.Agreement.allows
