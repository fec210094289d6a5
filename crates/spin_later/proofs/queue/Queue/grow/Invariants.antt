use Rattle.std.proofs.Common.{◌≡◌, ◌≤◌, []}
use Rattle.crossbeam_queue.specs.Passes.{view}
use Rattle.spin_later.specs.Rule.{known, new_hands}
use Rattle.spin_later.proofs.queue.Queue.grow.Given as goal

abbrev pub invariant-loop : goal.invariant-loop
invariant-loop g l = (l.maker.table_id ≡ l.fn.self.id) × (l.maker.me.1 ≡ []) × (view l.maker ≡ known l.counter (new_hands 0 l.counter) []) × (1 ≤ l.counter)
