use Rattle.spin_jobs.proofs.GatheredReplies.{all_done}
use Rattle.spin_jobs.proofs.ReplyPlaces.{given_by}
use Rattle.spin_jobs.proofs.running.run_numbered.Goals as goal

pub in_order-requires-clause-within : goal.in_order-requires-clause-within
in_order-requires-clause-within g c = λ k d lt. (c.in_ok-done.ensures.done.right k d lt).0

pub in_order-requires-clause-once : goal.in_order-requires-clause-once
in_order-requires-clause-once g c =
    all_done _ c.args.count c.gather.new.caller.me.0 c.in_ok-done.done.items c.close.result c.in_ok-done.ensures.done c.in_ok-done.ensures.past c.close.ensures

pub returns : goal.returns
returns g c =
    rw c.from_vec.ensures (given_by _ c.args.count _ c.in_ok-done.done.items c.in_ok-in_order.field-0.items c.in_ok-done.ensures.done c.in_ok-in_order.ensures)
