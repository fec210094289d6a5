use Rattle.std.proofs.Common.{arith}
use Rattle.spin_c.proofs.Sharing.{few_taken}
use Rattle.spin_c.proofs.gathering.count_missing.Goals as goal

pub overflow_add-count : goal.overflow_add-count
overflow_add-count c =
    let few = few_taken c.loop-slot.slot-index c.args.waiting.now in
    omega (arith, few, c.loop-slot.invariant.0, c.loop-slot.invariant.1, c.loop-slot-test.true)
