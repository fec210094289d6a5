use Rattle.std.proofs.Common.{◌++◌, sym, ap, ◌∙◌}
use Rattle.std.specs.Prelude.{decimal}
use Rattle.spin_text.specs.Words.{spaced}
use Rattle.spin_report.proofs.PlainWords.{decimal_word}
use Rattle.spin_check.proofs.LineWords.{cycle_stands, cycle_begins}
use Rattle.spin_check.proofs.told.cycle_told.Goals as goal

pub returns : goal.returns
returns c = λ cycle low tells.
    let s = cycle_stands c.args.report.now cycle tells in
    let b = cycle_begins cycle s.2 in
    let behind = c.behind_words.ensures (decimal s.0.place) s.1 b.0 b.1 (decimal_word s.0.place) s.3 s.4 b.2 (s.5 ∙ ap (λ t. decimal s.0.place ++ spaced s.1 ++ t) b.3) in
    c.numbers_told.ensures cycle s.2 low (behind ∙ sym b.3)
