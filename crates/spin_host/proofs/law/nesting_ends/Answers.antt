use Rattle.spin_host.proofs.NestedLevels.{nesting_ends}
use Rattle.spin_host.proofs.law.nesting_ends.Goals as goal

pub returns : goal.returns
returns c = nesting_ends
