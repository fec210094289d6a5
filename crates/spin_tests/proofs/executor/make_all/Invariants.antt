use Rattle.spin_later.specs.Parties.{IsSameParty}
use Rattle.spin_tests.proofs.executor.make_all.Given as goal

-- each is still the party of its number
abbrev pub invariant-loop-party : goal.invariant-loop-party
invariant-loop-party g l = IsSameParty l.fn.first l.first × IsSameParty l.fn.second l.second
