use Rattle.std.proofs.Common.{sym, subst, []}
use Rattle.std.specs.Prelude.{Some}
use Rattle.spin_run.specs.Segments.{AreReady}
use Rattle.spin_run.proofs.KeptEntries.{ready_with}
use Rattle.spin_run.proofs.lanes.Lanes.keep_entries.Goals as goal

pub returns-clause-ready : goal.returns-clause-ready
returns-clause-ready c = λ d log count ready. subst (AreReady d log count) (sym c.keep_all.ensures) (ready_with (λ _. Some []) d log count c.args.self.now ready)
