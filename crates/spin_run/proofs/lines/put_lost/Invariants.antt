use Rattle.std.proofs.Common.{◌≡◌, ◌++◌}
use Rattle.spin_text.specs.Words.{text_of}
use Rattle.spin_report.specs.Histories.{lost_lines}
use Rattle.spin_run.specs.Inner.Lining.{counts_to}
use Rattle.spin_run.proofs.lines.put_lost.Given as goal

abbrev pub invariant-loop-number : goal.invariant-loop-number
invariant-loop-number l = l.text ≡ l.fn.text ++ text_of (lost_lines (counts_to l.lost l.number))
