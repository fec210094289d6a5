use Rattle.spin_later.specs.Parties.{IsSameParty}
use Rattle.spin_tests.proofs.executor.make_rounds.Given as goal

-- each is still the party of its number
abbrev pub invariant-loop-round : goal.invariant-loop-round
invariant-loop-round g l = IsSameParty l.fn.first l.first × IsSameParty l.fn.second l.second
