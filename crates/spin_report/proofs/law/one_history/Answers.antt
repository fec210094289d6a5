use Rattle.spin_report.proofs.Whole.{one_history, one_run}
use Rattle.spin_report.proofs.law.one_history.Goals as goal

pub returns-clause-entries : goal.returns-clause-entries
returns-clause-entries c = one_history

pub returns-clause-whole : goal.returns-clause-whole
returns-clause-whole c = one_run
