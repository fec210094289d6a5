use Rattle.std.proofs.Common.{◌≡◌, ◌++◌, take}
use Rattle.std.specs.List.{flat_map}
use Rattle.spin_run.specs.Inner.Marks.{line_in}
use Rattle.spin_run.proofs.lines.put_entries.Given as goal

abbrev pub invariant-loop-mark : goal.invariant-loop-mark
invariant-loop-mark l = l.text ≡ l.fn.text ++ flat_map (line_in l.trails) (take l.mark-index l.marks)
