use Rattle.spin_table.proofs.SignatureTests.{is_same_kinds}
use Rattle.spin_table.proofs.build.takes_parts.Goals as goal

pub returns : goal.returns
returns c = is_same_kinds _ _ _ c.have_kinds.ensures
