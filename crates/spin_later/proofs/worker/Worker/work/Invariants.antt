use Rattle.std.proofs.Common.{◌≡◌, All, length}
use Rattle.spin_table.specs.SetupOf.{data_of}
use Rattle.spin_later.specs.Parties.{IsSameParty}
use Rattle.spin_later.specs.Inner.Work.{IsRight}
use Rattle.spin_later.proofs.worker.Worker.work.Given as goal

abbrev pub invariant-loop-call : goal.invariant-loop-call
invariant-loop-call g l =
    IsSameParty l.fn.self.party l.self.party × (length l.self.party.sent ≡ l.call-index) × All (IsRight (data_of l.setup) l.batches) l.self.done.items

abbrev pub invariant-loop : goal.invariant-loop
invariant-loop g l =
    (goal.iterator-loop g).can_next l.iterator' × (goal.iterator-loop g).is_finite l.iterator' × IsSameParty l.fn.self.party l.self.party
    × All (IsRight (data_of l.setup) l.batches) l.self.done.items
