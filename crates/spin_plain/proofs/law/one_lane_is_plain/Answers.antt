use Rattle.spin_plain.proofs.OneLane.{one_lane, one_text}
use Rattle.spin_plain.proofs.PlainRun.{plain_runs}
use Rattle.spin_plain.proofs.law.one_lane_is_plain.Goals as goal

pub returns-clause-history : goal.returns-clause-history
returns-clause-history c = one_lane

pub returns-clause-text : goal.returns-clause-text
returns-clause-text c = one_text

pub returns-clause-runs : goal.returns-clause-runs
returns-clause-runs c = plain_runs
