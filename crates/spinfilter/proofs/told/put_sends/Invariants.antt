use Rattle.std.proofs.Common.{◌≡◌, ◌++◌, take}
use Rattle.spin_text.specs.Words.{text_of}
use Rattle.spinfilter.specs.Told.{send_lines_from}
use Rattle.spinfilter.proofs.told.put_sends.Given as goal

abbrev pub invariant-loop-number : goal.invariant-loop-number
invariant-loop-number l = l.out ≡ l.fn.out ++ text_of (send_lines_from 0 (take l.number l.names) l.counts)
