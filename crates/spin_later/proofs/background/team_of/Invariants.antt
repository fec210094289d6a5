use Rattle.std.proofs.Common.{◌≡◌, All}
use Rattle.spin_later.specs.Inner.Work.{parties_of, IsIdle}
use Rattle.spin_later.proofs.background.team_of.Given as goal

-- a worker for each party so far
abbrev pub invariant-loop-party : goal.invariant-loop-party
invariant-loop-party l = (parties_of l.team.items ≡ l.yielded) × All IsIdle l.team.items
