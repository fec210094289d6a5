use Rattle.std.proofs.Common.{length}
use Rattle.std.specs.Arc.{arc_value}
use Rattle.spin_table.specs.SetupOf.{data_of}
use Rattle.spin_check.proofs.JobLemmas.{AreDone}
use Rattle.spin_check.proofs.jobs.do_jobs.Given as goal

abbrev pub invariant-loop-call : goal.invariant-loop-call
invariant-loop-call g l = AreDone (data_of l.setup) (arc_value l.version).state l.fn.entry l.fn.out l.fn.sends l.calls.items l.index l.out l.sends

abbrev pub decreases-loop-call : goal.decreases-loop-call
decreases-loop-call g l = length l.calls.items
