use Rattle.std.proofs.Common.{◌≡◌, ◌++◌, replicate}
use Rattle.spin_filter.proofs.rounds.add_turns.Given as goal

abbrev pub invariant-loop-taken : goal.invariant-loop-taken
invariant-loop-taken l = l.round.items ≡ l.fn.round.items ++ replicate l.taken l.event
