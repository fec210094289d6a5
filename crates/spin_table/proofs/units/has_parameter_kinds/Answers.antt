use Rattle.spin_table.proofs.SignatureTests.{is_same_kinds}
use Rattle.spin_table.proofs.units.has_parameter_kinds.Goals as goal

pub returns : goal.returns
returns c = is_same_kinds _ _ _ c.same_kinds.ensures
