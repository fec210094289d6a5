use Rattle.std.proofs.Common.{map, refl}
use Rattle.spin_endpoint.specs.Inner.View.{view_of}
use Rattle.spin_frames.specs.Written.{with_waiting}
use Rattle.spin_filter.specs.Sending.{outlets_at}
use Rattle.spin_table.specs.SetupOf.{data_of}
use Rattle.spin_filter.specs.Inner.Sends.{IsOf}
use Rattle.spin_filter.specs.Stops.{IsSentIn, IsSentByJob}
use Rattle.spin_filter.proofs.Stopped.{err-out}
use Rattle.spin_filter.proofs.Doings.{passed_by, done-job, job-one, sent-job, stop-here}
use Rattle.spin_filter.proofs.passing.do_job.Goals as goal

pub returns : goal.returns
returns g c =
    job-one (passed_by c.args.passing.now) c.args.taken.now c.args.call.now c.in_ok-reply.reply c.trace.result.now _ _ _
    c.in_ok-reply.ensures.reply c.trace.ensures (done-job c.args.passing.now.names.now c.args.passing.now.capture _ _ refl refl c.note_job.ensures) c.in_ok-do_job_steps.ensures

pub returns-in_err-do_job_steps : goal.returns-in_err-do_job_steps
returns-in_err-do_job_steps g c =
    let at = λ (o : _). outlets_at (map (view_of (λ e. (goal.Endpoint-dyn g (e.object.vtable, e.object.value)).seen e.object.value)) o.ends.ends.items)
    (with_waiting (g.W.Sink.seen o.file.sink) o.file.waiting) o.counts in
    let taken = c.args.taken.now in
    let d = data_of c.args.passing.now.setup.now in
    let st = c.args.passing.now.version.now.state in
    err-out c.from_residual-in_err-do_job_steps.result c.in_err-do_job_steps.field-0.0 _ _ c.from_residual-in_err-do_job_steps.ensures.1
    (stop-here c.args.passing.now.names.now c.args.passing.now.capture (IsOf taken (IsSentIn c.trace.result.now)) (IsOf taken (λ s. IsSentByJob d st s c.args.call.now)) (at c.args.outlets.now)
    (at (record c.args.outlets.now { counts = c.note_job.new.self })) (at c.do_job_steps.new.outlets) c.in_err-do_job_steps.field-0.0
    (sent-job taken d st c.args.call.now c.in_ok-reply.reply c.trace.result.now c.in_ok-reply.ensures.reply c.trace.ensures) refl refl c.in_err-do_job_steps.ensures)
