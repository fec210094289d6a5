use Rattle.spin_filter_law.proofs.FilterRun.{filter_runs, each_unrolled}
use Rattle.spin_filter_law.proofs.law.filter_is_run.Goals as goal

pub returns-clause-run : goal.returns-clause-run
returns-clause-run c = filter_runs

pub returns-clause-unrolled : goal.returns-clause-unrolled
returns-clause-unrolled c = each_unrolled
