use Rattle.spin_filter.proofs.Doings.{hand-lost}
use Rattle.spin_filter.proofs.sending.hand.Goals as goal

pub returns-in-Err-Unknown-clause-handed : goal.returns-in-Err-Unknown-clause-handed
returns-in-Err-Unknown-clause-handed g c =
    hand-lost c.args.passing.now.names.now (record { endpoint = c.args.endpoint; bytes = c.args.bytes.now }) _ _ _ _ c.name_at.result.now c.in-Err-Unknown.field-0
    c.name_at.ensures c.in-Err-Unknown.field-0-is c.in-Err-Unknown.ensures c.note_lost.ensures
