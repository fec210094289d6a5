use Rattle.std.proofs.Common.{arith}
use Rattle.spinfilter.proofs.Names.{names-more}
use Rattle.spinfilter.proofs.words.count_names.Goals as goal

pub loop-at-preserved : goal.loop-at-preserved
loop-at-preserved c =
    names-more c.args.words.now c.loop-at.at c.index-words-at.result (omega (arith, c.loop-at-test.true, c.loop-at.auto.at-end)) c.index-words-at.is c.loop-at.invariant (c.is_name.ensures.0 c.if-not-is_name.false)
