use Rattle.std.proofs.Common.{rules}
use Rattle.host_workers.proofs.put.Goals as goal

pub put-requires-clause-agreed : goal.put-requires-clause-agreed
put-requires-clause-agreed g c κs within = (c.requires.agreed _).0 (search rules)
