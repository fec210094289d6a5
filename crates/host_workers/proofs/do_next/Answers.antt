use Rattle.host_workers.proofs.do_next.Goals as goal

pub do_task-requires-clause-can : goal.do_task-requires-clause-can
do_task-requires-clause-can g c = (c.requires.agreed c.in-Some.task).1 c.in-Some.ensures.agreed
