use Rattle.std.proofs.Common.{◌≡◌, ◌-◌, []}
use Rattle.crossbeam_queue.specs.Passes.{view}
use Rattle.spin_later.specs.Rule.{known, new_hands}
use Rattle.spin_later.specs.Parties.{first_parties}
use Rattle.spin_later.proofs.queue.Queue.members.Given as goal

abbrev pub invariant-loop-number : goal.invariant-loop-number
invariant-loop-number g l =
    (l.maker.table_id ≡ l.fn.self.id) × (l.maker.me.1 ≡ []) × (view l.maker ≡ known l.fn.self.parties (new_hands l.number (l.fn.self.parties - l.number)) [])
    × (l.members ≡ first_parties l.fn.self.id l.fn.self.parties l.number)
