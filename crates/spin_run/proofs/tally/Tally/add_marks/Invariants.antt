use Rattle.std.proofs.Common.{◌≡◌, take}
use Rattle.spin_run.specs.Inner.Marks.{counts_by}
use Rattle.spin_run.specs.Inner.Tallies.{plus}
use Rattle.spin_run.proofs.tally.Tally.add_marks.Given as goal

abbrev pub invariant-loop-mark : goal.invariant-loop-mark
invariant-loop-mark l = l.self ≡ plus l.fn.self (counts_by (take l.mark-index l.marks))
