use Rattle.spin.specs.Parties.{IsSameParty}
use Rattle.host_workers.proofs.work.Given as goal

-- it is still that party
abbrev pub invariant-loop : goal.invariant-loop
invariant-loop g l = (goal.iterator-loop g).can_next l.iterator' × (goal.iterator-loop g).is_finite l.iterator' × IsSameParty l.fn.party l.party
