use Rattle.std.proofs.Common.{◌≡◌, length}
use Rattle.std.specs.List.{All}
use Rattle.spin_table.specs.SetupOf.{data_of}
use Rattle.spin_later.specs.Batches.{CanDo}
use Rattle.spin_tests.proofs.executor.batch_of.Given as goal

-- the calls so far can be done
abbrev pub invariant-loop : goal.invariant-loop
invariant-loop g l = All (CanDo (data_of l.setup)) l.batch × (length l.batch ≡ l.counter)
