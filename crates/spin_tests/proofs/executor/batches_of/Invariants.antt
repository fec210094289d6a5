use Rattle.std.proofs.Common.{◌≡◌, ◌<◌, ◌^◌, length}
use Rattle.std.specs.List.{All}
use Rattle.spin_table.specs.SetupOf.{data_of}
use Rattle.spin_later.specs.Batches.{CanDo}
use Rattle.spin_tests.proofs.executor.batches_of.Given as goal

-- the batches so far can be done, and are as short as asked
abbrev pub invariant-loop : goal.invariant-loop
invariant-loop g l =
    All (All (CanDo (data_of l.setup))) l.batches × All (λ batch. length batch < 2 ^ 32) l.batches × (length l.batches ≡ l.counter)
