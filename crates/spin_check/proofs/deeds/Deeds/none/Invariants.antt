use Rattle.std.proofs.Common.{◌≡◌, [], map, replicate}
use Rattle.spin_check.proofs.deeds.Deeds.none.Given as goal

abbrev pub invariant-loop-lane : goal.invariant-loop-lane
invariant-loop-lane l = map (λ queue. queue.items) l.queues.items ≡ replicate l._lane []
