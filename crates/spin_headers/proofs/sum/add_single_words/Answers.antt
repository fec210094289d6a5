use Rattle.std.proofs.Common.{arith}
use Rattle.std.proofs.lemmas.Slice.{between_to_end}
use Rattle.spin_headers.proofs.SumLemmas.{step, ends_even, ends_odd}
use Rattle.spin_headers.proofs.sum.add_single_words.Goals as goal

pub loop-rest-preserved : goal.loop-rest-preserved
loop-rest-preserved c = record {
  small = omega arith;
  same = step c.loop-rest.total _ _ c.loop-rest.rest.now _ c.loop-rest-test.true (grind arith) c.loop-rest.invariant.same (between_to_end c.loop-rest.rest.now 2 _ (omega arith));
}

pub returns-then-rest-eq1 : goal.returns-then-rest-eq1
returns-then-rest-eq1 c =
    ends_odd c.loop-rest.total _ _ _ c.loop-rest.rest.now c.if-rest-eq1.true (grind arith) c.add_word.ensures c.loop-rest.invariant.same

pub returns : goal.returns
returns c =
    ends_even c.loop-rest.total _ c.loop-rest.rest.now (grind arith) c.loop-rest.invariant.small c.loop-rest.invariant.same
