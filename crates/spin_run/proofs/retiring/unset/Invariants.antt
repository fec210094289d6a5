use Rattle.std.proofs.Common.{◌≡◌, length}
use Rattle.spin_run.proofs.retiring.unset.Given as goal

abbrev pub invariant-loop : goal.invariant-loop
invariant-loop l = length l.flags.items ≡ l.counter
