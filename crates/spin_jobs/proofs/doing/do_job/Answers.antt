use Rattle.std.proofs.Common.{sym, subst}
use Rattle.std.specs.Prelude.{IfOk}
use Rattle.spin_table.specs.SetupOf.{data_of}
use Rattle.spin_table.specs.States.{VersionValue}
use Rattle.spin_table.specs.Soundness.{IsSoundVersion}
use Rattle.spin_proto.specs.Replies.{IsJobReply, BelongsTo}
use Rattle.spin_jobs.proofs.JobReplies.{can_run_at, reply_at}
use Rattle.spin_jobs.proofs.doing.do_job.Goals as goal

pub job_path-requires-clause-sound : goal.job_path-requires-clause-sound
job_path-requires-clause-sound g c =
    let a = c.args in
    let d = data_of a.setup.now in
    let job = c.index-jobs-number in
    subst (IsSoundVersion d) (sym c.deref.ensures) (can_run_at d a.jobs.now a.number job.result c.requires.there job.is c.requires.can).0

pub job_path-requires-clause-belongs : goal.job_path-requires-clause-belongs
job_path-requires-clause-belongs g c =
    let a = c.args in
    let job = c.index-jobs-number in
    subst (λ (v : VersionValue). BelongsTo v.state job.result.call) (sym c.deref.ensures) (can_run_at (data_of a.setup.now) a.jobs.now a.number job.result c.requires.there job.is c.requires.can).1

pub returns : goal.returns
returns g c =
    let a = c.args in
    let d = data_of a.setup.now in
    let job = c.index-jobs-number in
    reply_at d a.jobs.now a.number job.result c.requires.there job.is c.job_path.result
    (subst (λ (v : VersionValue). IfOk c.job_path.result (λ reply. IsJobReply d v.state job.result.call reply)) c.deref.ensures c.job_path.ensures.reply) c.job_path.ensures.calls
