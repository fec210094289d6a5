use Rattle.host_workers.proofs.play.Goals as goal

pub do_left-requires-clause-can : goal.do_left-requires-clause-can
do_left-requires-clause-can g c k d lt = (c.requires.agreed _).1 (c.in_ok-left.ensures k d lt)
