use Rattle.std.proofs.Common.{sym, subst}
use Rattle.spin_table.specs.SetupOf.{data_of}
use Rattle.spin_table.specs.States.{VersionValue}
use Rattle.spin_table.specs.Soundness.{IsSoundVersion}
use Rattle.spin_proto.specs.Replies.{IsJobReply, BelongsTo}
use Rattle.std.proofs.lemmas.Result.{on_ok_weaker}
use Rattle.spin_check.proofs.jobs.do_job.Goals as goal

pub job_path-requires-clause-sound : goal.job_path-requires-clause-sound
job_path-requires-clause-sound g c = subst (IsSoundVersion (data_of c.args.setup.now)) (sym c.deref.ensures) c.requires.sound

pub job_path-requires-clause-belongs : goal.job_path-requires-clause-belongs
job_path-requires-clause-belongs g c = subst (λ (t : VersionValue). BelongsTo t.state c.args.job.now.call) (sym c.deref.ensures) c.requires.belongs

pub returns : goal.returns
returns g c =
    let reply = c.in_ok-reply.reply in
    let is = subst (λ (t : VersionValue). IsJobReply (data_of c.args.setup.now) t.state c.args.job.now.call reply) c.deref.ensures c.in_ok-reply.ensures.reply in
    on_ok_weaker c.add_of_reply.result (λ sent. (reply, is, c.in_ok-job_text.ensures.ok, sent)) c.add_of_reply.ensures
