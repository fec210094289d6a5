use Rattle.std.proofs.Common.{◌∷◌, ◌++◌, []}
use Rattle.std.proofs.lemmas.List.Elements.{All-push, All-same}
use Rattle.spin_table.specs.SetupOf.{data_of}
use Rattle.spin_jobs.specs.Jobs.{CanRun}
use Rattle.spin_tests.proofs.jobs.jobs_of.Goals as goal

pub loop-number-preserved : goal.loop-number-preserved
loop-number-preserved g c =
    let P = CanRun (data_of c.args.setup.now) in
    let job = c.in_ok-job_of.field-0 in
    All-same P c.push.new.self (c.loop-number.jobs ++ job ∷ []) c.in_ok-push.ensures.ok (All-push P c.loop-number.jobs job c.loop-number.invariant c.in_ok-job_of.ensures)
