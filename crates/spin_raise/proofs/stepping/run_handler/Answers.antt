use Rattle.spin_raise.proofs.HandlerWalk.{done_items}
use Rattle.spin_raise.proofs.stepping.run_handler.Goals as goal

pub returns-clause-out : goal.returns-clause-out
returns-clause-out g c = done_items _ _ _ _ _ _ _ c.in_ok-run.ensures c.in_ok-push.ensures.ok
