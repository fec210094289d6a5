use Rattle.std.proofs.Common.{◌≡◌, ◌++◌, take, map}
use Rattle.spin_script.specs.Canonical.{text_of_lines, lane_line}
use Rattle.spin_script.proofs.write.put_lines.Given as goal

abbrev pub invariant-loop-line : goal.invariant-loop-line
invariant-loop-line l = l.out ≡ l.fn.out ++ text_of_lines (map (lane_line l.version) (take l.line-index l.lines))
