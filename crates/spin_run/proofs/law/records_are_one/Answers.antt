use Rattle.spin_run.proofs.Told.{records_one}
use Rattle.spin_run.proofs.law.records_are_one.Goals as goal

pub returns : goal.returns
returns c = records_one
