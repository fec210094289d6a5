use Rattle.spin_table.proofs.SignatureTests.{is_same_signature}
use Rattle.spin_table.proofs.units.has_signature.Goals as goal

pub returns : goal.returns
returns c = is_same_signature _ _ _ c.same_type.ensures
