use Rattle.std.proofs.Common.{arith}
use Rattle.spin_place.proofs.NumberLists.{repeats, distinct_more}
use Rattle.spin_place.proofs.ring.are_distinct.Goals as goal

pub returns-then-stands_before : goal.returns-then-stands_before
returns-then-stands_before c =
    (λ f. absurd (cc (f)), λ distinct. absurd (repeats c.args.numbers.now c.loop-at.at (omega (arith, c.loop-at-test.true)) (c.stands_before.ensures.0 c.if-stands_before.true) distinct))

pub loop-at-preserved : goal.loop-at-preserved
loop-at-preserved c =
    distinct_more c.args.numbers.now c.loop-at.at (omega (arith, c.loop-at-test.true))
    (λ h. cc (c.stands_before.ensures.1 h, c.if-stands_before.false)) c.loop-at.invariant
