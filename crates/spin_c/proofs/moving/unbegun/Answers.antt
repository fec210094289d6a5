use Rattle.std.proofs.Common.{◌∙◌}
use Rattle.spin_c.proofs.RaiseOpening.{asked_before}
use Rattle.spin_c.proofs.moving.unbegun.Goals as goal

pub returns-in-NoMemory-clause-same : goal.returns-in-NoMemory-clause-same
returns-in-NoMemory-clause-same c = (asked_before _ _ _ c.call_on.ensures).0

pub returns-in-NoMemory-clause-told : goal.returns-in-NoMemory-clause-told
returns-in-NoMemory-clause-told c = rw c.in-NoMemory.is (c.missed_of.ensures ∙ (asked_before _ _ _ c.call_on.ensures).1)
