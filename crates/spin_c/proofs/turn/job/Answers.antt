use Rattle.std.proofs.Common.{refl}
use Rattle.spin_c.proofs.turn.job.Goals as goal

pub job-requires-clause-well : goal.job-requires-clause-well
job-requires-clause-well g c = rw c.deref.ensures c.requires.well.1

pub returns-clause-well : goal.returns-clause-well
returns-clause-well g c = (c.requires.well.0, rw c.deref.ensures at c.job.ensures.well)

pub returns-clause-works : goal.returns-clause-works
returns-clause-works g c = ((refl, refl, refl, refl, refl, refl, refl), refl, rw c.deref.ensures at c.job.ensures.does)
