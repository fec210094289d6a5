use Rattle.std.specs.Arc.{arc_value}
use Rattle.spin_table.specs.SetupOf.{data_of}
use Rattle.spin_report.specs.Jobs.{answer_calls}
use Rattle.spin_whole.proofs.JobSteps.{AreFirst}
use Rattle.spin_whole.proofs.jobs.do_jobs.Given as goal

abbrev pub invariant-loop-call : goal.invariant-loop-call
invariant-loop-call g l = AreFirst (data_of l.setup) (arc_value l.version).state l.entry (answer_calls l.entry.what) l.call-index l.fn.out l.fn.sends l.index l.out l.sends
