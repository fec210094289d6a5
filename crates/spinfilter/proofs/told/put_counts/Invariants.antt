use Rattle.std.proofs.Common.{◌≡◌, ◌++◌, map, take}
use Rattle.spin_text.specs.Words.{text_of}
use Rattle.spinfilter.specs.Told.{count_line}
use Rattle.spinfilter.proofs.told.put_counts.Given as goal

abbrev pub invariant-loop-row : goal.invariant-loop-row
invariant-loop-row l = l.out ≡ l.fn.out ++ text_of (map (λ row. count_line row.0.now row.1) (take l.row-index l.rows))
