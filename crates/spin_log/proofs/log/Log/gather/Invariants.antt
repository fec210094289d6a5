use Rattle.std.proofs.Common.{◌≡◌, [], ◌++◌, map, vec_len}
use Rattle.spin_log.specs.Pens.{pen_value}
use Rattle.spin_log.proofs.log.Log.gather.Given as goal

abbrev pub invariant-loop-pen : goal.invariant-loop-pen
invariant-loop-pen l = (l.taker.table_id ≡ l.fn.self.id) × (l.taker.me.1 ≡ []) × (l.items.items ++ map (pen_value l.fn.self.id) l.taker.me.0.hands ≡ l.fn.pens)

abbrev pub decreases-loop-pen : goal.decreases-loop-pen
decreases-loop-pen l = vec_len l.items
