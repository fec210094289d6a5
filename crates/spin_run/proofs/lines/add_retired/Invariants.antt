use Rattle.std.proofs.Common.{◌≡◌, ◌++◌, map, take}
use Rattle.spin_text.specs.Words.{ended}
use Rattle.spin_report.specs.Histories.{retire_line}
use Rattle.spin_run.specs.Inner.Lining.{retired_as}
use Rattle.spin_run.proofs.lines.add_retired.Given as goal

abbrev pub invariant-loop-at : goal.invariant-loop-at
invariant-loop-at l = l.lines ≡ l.fn.lines ++ map ended (map retire_line (take l.at (retired_as l.numbers l.stood)))
