use Rattle.std.proofs.Common.{◌≡◌, All}
use Rattle.spin_table.specs.SetupOf.{data_of}
use Rattle.spin_later.specs.Parties.{IsSameParty}
use Rattle.spin_later.specs.Inner.Work.{IsRight}
use Rattle.spin_later.proofs.worker.Worker.put.Given as goal

abbrev pub invariant-loop : goal.invariant-loop
invariant-loop g l =
    (goal.iterator-loop g).can_next l.iterator' × (goal.iterator-loop g).is_finite l.iterator' × IsSameParty l.fn.self.party l.self.party × (l.self.party.sent ≡ l.fn.self.party.sent)
    × All (IsRight (data_of l.setup) l.batches) l.self.done.items
