use Rattle.spin_report.proofs.ReportLines.{digits_tell}
use Rattle.spin_report.proofs.HistoryUniqueness.{law, one_list_of_jobs}
use Rattle.spin_report.proofs.LaneAnswers.{answered_by_lanes}
use Rattle.spin_report.proofs.law.report_tells.Goals as goal

pub returns-clause-digits : goal.returns-clause-digits
returns-clause-digits c = digits_tell

pub returns-clause-histories : goal.returns-clause-histories
returns-clause-histories c = law

pub returns-clause-jobs : goal.returns-clause-jobs
returns-clause-jobs c = one_list_of_jobs

pub returns-clause-lanes : goal.returns-clause-lanes
returns-clause-lanes c = answered_by_lanes
