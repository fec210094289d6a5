use Rattle.std.proofs.Common.{◌≡◌, ◌++◌, map, take}
use Rattle.spin_text.specs.Words.{text_of}
use Rattle.spinfilter.specs.Told.{hit_line}
use Rattle.spinfilter.proofs.told.put_hits.Given as goal

abbrev pub invariant-loop-hit : goal.invariant-loop-hit
invariant-loop-hit l = l.out ≡ l.fn.out ++ text_of (map hit_line (take l.hit-index l.hits))
