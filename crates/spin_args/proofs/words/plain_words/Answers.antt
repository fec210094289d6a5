use Rattle.std.proofs.Common.{◌∙◌, subst, sym}
use Rattle.spin_args.specs.Words.{IsPlain}
use Rattle.spin_args.proofs.ArgumentParsing.{more_words}
use Rattle.spin_args.proofs.words.plain_words.Goals as goal

pub loop-word-preserved : goal.loop-word-preserved
loop-word-preserved c =
    let is = c.in-Some.ensures.found.0 ∙ c.as_slice.ensures ∙ c.word-item.is in
    more_words _ _ _ _ _ _ c.loop-word-test.true c.loop-word.invariant.0 c.loop-word.invariant.1 c.in_ok-push.ensures.items is (subst IsPlain (sym c.in-Some.ensures.found.0) c.in-Some.ensures.found.1)
