use Rattle.std.proofs.Common.{◌≡◌, drop, take}
use Rattle.spin_report.specs.Segments.{wanted_by}
use Rattle.spin_whole.proofs.segment.behind.Given as goal

abbrev pub invariant-loop-line : goal.invariant-loop-line
invariant-loop-line l = l.left ≡ drop (wanted_by (take l.line-index l.lines)) l.records
