use Rattle.std.proofs.Common.{◌≡◌, [], All}
use Rattle.crossbeam_queue.specs.Passes.{view}
use Rattle.spin_later.specs.Rule.{known}
use Rattle.spin_later.proofs.queue.Queue.clear.Given as goal

abbrev pub invariant-loop : goal.invariant-loop
invariant-loop g l =
    (goal.iterator-loop g).can_next l.iterator' × (goal.iterator-loop g).is_finite l.iterator' × (l.taker.table_id ≡ l.fn.taker.table_id) × (l.taker.me.1 ≡ [])
    × (view l.taker ≡ known (view l.fn.taker).parties (view l.fn.taker).hands l.left) × All g.A.Agreement.allows l.left
