use Rattle.std.proofs.Common.{◌≡◌, [], ◌++◌, map, All, vec_len}
use Rattle.crossbeam_queue.specs.Passes.{view}
use Rattle.spin_later.specs.Rule.{known}
use Rattle.spin_later.specs.Parties.{hand_of, IsPartyOf}
use Rattle.spin_later.proofs.queue.Queue.gather.Given as goal

abbrev pub invariant-loop-party : goal.invariant-loop-party
invariant-loop-party g l =
    (l.taker.table_id ≡ l.fn.self.id) × (l.taker.me.1 ≡ []) × (view l.taker ≡ known l.fn.self.parties (view l.taker).hands [])
    × (map hand_of l.others.items ++ (view l.taker).hands ≡ map hand_of l.fn.parties)
    × All (IsPartyOf l.fn.self) l.others.items

abbrev pub decreases-loop-party : goal.decreases-loop-party
decreases-loop-party g l = vec_len l.others
