use Rattle.std.proofs.Common.{◌++◌, map, ap, ◌∙◌}
use Rattle.spin_text.specs.Words.{text_of}
use Rattle.spin_report.specs.Histories.{lost_line}
use Rattle.spin_run.specs.Inner.Lining.{if_lost}
use Rattle.spin_run.proofs.TextLines.{lost_more}
use Rattle.spin_run.proofs.lines.put_lost.Goals as goal

pub loop-number-preserved : goal.loop-number-preserved
loop-number-preserved c =
    lost_more c.args.text.now c.loop-number.text c.put_count.new.text c.args.lost.now c.loop-number.number c.loop-number.invariant
    (c.in_ok-put_count.ensures ∙ ap (λ n. c.loop-number.text ++ text_of (map lost_line (if_lost c.loop-number.number n))) c.to.ensures)
