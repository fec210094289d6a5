use Rattle.std.proofs.Common.{◌∙◌}
use Rattle.spin_check.proofs.LineWords.{word_split}
use Rattle.spin_check.proofs.told.split_word.Goals as goal

pub returns-clause-word : goal.returns-clause-word
returns-clause-word c = λ word byte more plain ends is.
    let parts = word_split c.args.report.now word byte more c.word_len.result plain ends is c.word_len.ensures.within c.word_len.ensures.before c.word_len.ensures.found in
    (c.split_at.ensures.front ∙ parts.0, c.split_at.ensures.back ∙ parts.1)
