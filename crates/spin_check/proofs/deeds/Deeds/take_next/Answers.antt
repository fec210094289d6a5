use Rattle.std.proofs.Common.{arith, deque_len}
use Rattle.spin_check.proofs.Queues.{seen_taken, popped}
use Rattle.spin_check.proofs.deeds.Deeds.take_next.Goals as goal

pub returns : goal.returns
returns c =
    let old = c.index_mut.result.now in
    let new = c.pop_front.new.self in
    seen_taken (λ q. q.items) c.self.inside.lanes.items c.args.self.now c.self.view_is c.args.lane old new c.pop_front.result
    (omega (arith, c.if-at-len.false, c.len.ensures)) c.index_mut.ensures.value
    (popped c.pop_front.result old.items new.items (deque_len old) (deque_len new) old.ok.0 c.pop_front.ensures.items c.pop_front.ensures.cases)
