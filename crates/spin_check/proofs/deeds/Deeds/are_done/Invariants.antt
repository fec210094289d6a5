use Rattle.std.proofs.Common.{◌≡◌, []}
use Rattle.std.specs.List.{AllWithin}
use Rattle.spin_check.proofs.deeds.Deeds.are_done.Given as goal

abbrev pub invariant-loop-queue : goal.invariant-loop-queue
invariant-loop-queue l = AllWithin (λ queue. queue.items ≡ []) l.queue-items 0 l.queue-index
