use Rattle.std.proofs.Common.{◌++◌, List, sym, ap, subst, ◌∙◌}
use Rattle.std.specs.List.{filter_map}
use Rattle.std.proofs.lemmas.Result.{on_ok_weaker}
use Rattle.spin_endpoint.specs.Sends.{SentSeen}
use Rattle.spin_table.specs.SetupOf.{data_of}
use Rattle.spin_table.specs.States.{VersionValue}
use Rattle.spin_table.specs.Soundness.{IsSoundVersion}
use Rattle.spin_proto.specs.Replies.{IsJobReply, BelongsTo}
use Rattle.spin_report.specs.Runs.{sent_by}
use Rattle.spin_whole.proofs.JobSteps.{reply_sends}
use Rattle.spin_whole.proofs.jobs.do_job.Goals as goal

pub job_path-requires-clause-sound : goal.job_path-requires-clause-sound
job_path-requires-clause-sound g c = subst (IsSoundVersion (data_of c.args.setup.now)) (sym c.deref.ensures) c.requires.sound

pub job_path-requires-clause-belongs : goal.job_path-requires-clause-belongs
job_path-requires-clause-belongs g c = subst (λ (t : VersionValue). BelongsTo t.state c.args.job.now.call) (sym c.deref.ensures) c.requires.belongs

pub returns : goal.returns
returns g c =
    let reply = c.in_ok-reply.reply in
    let is = subst (λ (t : VersionValue). IsJobReply (data_of c.args.setup.now) t.state c.args.job.now.call reply) c.deref.ensures c.in_ok-reply.ensures.reply in
    let same = ap (filter_map sent_by) c.trace.ensures ∙ reply_sends reply in
    on_ok_weaker c.add_steps.result (λ sent. (reply, is, c.in_ok-job_text.ensures.ok, sent ∙ ap (λ (l : List SentSeen). c.args.sends.now ++ l) same)) c.add_steps.ensures
