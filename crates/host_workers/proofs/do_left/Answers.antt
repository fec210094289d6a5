use Rattle.std.proofs.Common.{sym, subst}
use Rattle.std.specs.Prelude.{All}
use Rattle.spin.specs.SetupOf.{data_of}
use Rattle.spin.specs.Agreements.{CanDoTask}
use Rattle.host_workers.proofs.do_left.Goals as goal

pub do_task-requires-clause-can : goal.do_task-requires-clause-can
do_task-requires-clause-can g c =
    let P = CanDoTask (data_of c.args.setup.now) in
    let all = subst (All P) (sym c.as_slice-task-items.ensures) c.requires.can in
    subst P (sym c.task-item.is) (all c.loop-task.task-index c.task-item.result c.loop-task-test.true)
