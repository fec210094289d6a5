use Rattle.std.proofs.Common.{◌<◌, ◌∙◌, length, ap, arith}
use Rattle.spin_check.proofs.LineWords.{word_passed, word_there}
use Rattle.spin_check.proofs.told.behind_words.Goals as goal
use Rattle.spin_check.proofs.told.behind_words.Goals.{in-Some, in_default}

pub loop-passed-preserved : goal.loop-passed-preserved
loop-passed-preserved c = λ word words byte more plain plains long ends is.
    let before = c.loop-passed.invariant word words byte more plain plains long ends is in
    let lt : c.loop-passed._passed < length words = omega (arith, c.loop-passed-test.true, long) in
    elim c.match-split_first.branch [
      | in-Some w ↦
          ap (λ r. r.now) w.rest-is
          ∙ word_passed c.loop-passed.rest.now w.in-Some.after.now w.behind_word-rest-in-Some.result.now _ words c.loop-passed._passed byte more lt plains ends before
          w.in-Some.ensures.cases.0 w.behind_word-rest-in-Some.ensures
      | in_default w ↦ absurd (word_there c.loop-passed.rest.now words c.loop-passed._passed byte more lt before w.in_default.ensures.cases)
    ]
