use Rattle.std.proofs.Common.{All}
use Rattle.spin_table.specs.SetupOf.{data_of}
use Rattle.spin_later.specs.Inner.Work.{IsRight}
use Rattle.spin_later.proofs.background.do_left.Given as goal

abbrev pub invariant-loop-task : goal.invariant-loop-task
invariant-loop-task g l = All (IsRight (data_of l.setup) l.batches) l.done.items
