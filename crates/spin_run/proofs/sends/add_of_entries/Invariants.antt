use Rattle.std.proofs.Common.{◌≡◌, ◌++◌, take}
use Rattle.std.specs.List.{flat_map}
use Rattle.spin_run.specs.Inner.Marks.{sends_in}
use Rattle.spin_run.proofs.sends.add_of_entries.Given as goal

abbrev pub invariant-loop-mark : goal.invariant-loop-mark
invariant-loop-mark l = l.sends.items ≡ l.fn.sends.items ++ flat_map (sends_in l.trails) (take l.mark-index l.marks)
