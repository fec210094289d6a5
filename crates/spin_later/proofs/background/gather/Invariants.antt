use Rattle.std.proofs.Common.{◌≡◌}
use Rattle.spin_later.specs.Inner.Work.{parties_of, done_by}
use Rattle.spin_later.proofs.background.gather.Given as goal

-- of the workers so far
abbrev pub invariant-loop-worker : goal.invariant-loop-worker
invariant-loop-worker l = (l.parties ≡ parties_of l.yielded) × (l.all.items ≡ done_by l.yielded)
