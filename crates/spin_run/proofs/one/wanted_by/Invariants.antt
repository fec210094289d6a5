use Rattle.std.proofs.Common.{◌≡◌, take}
use Rattle.spin_report.specs.Segments.{wanted_by}
use Rattle.spin_run.proofs.one.wanted_by.Given as goal

abbrev pub invariant-loop-line : goal.invariant-loop-line
invariant-loop-line l = l.wanted ≡ wanted_by (take l.line-index l.lines)
