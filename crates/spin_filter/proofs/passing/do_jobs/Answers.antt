use Rattle.std.proofs.Common.{map}
use Rattle.spin_endpoint.specs.Inner.View.{view_of}
use Rattle.spin_frames.specs.Written.{with_waiting}
use Rattle.spin_filter.specs.Sending.{outlets_at}
use Rattle.std.proofs.Common.{arith}
use Rattle.spin_table.specs.SetupOf.{data_of}
use Rattle.spin_filter.proofs.Stopped.{err-out}
use Rattle.std.specs.Prelude.{Any}
use Rattle.spin_filter.specs.Inner.Sends.{IsOf}
use Rattle.spin_filter.specs.Stops.{IsSentByJob}
use Rattle.spin_filter.proofs.Doings.{passed_by, stop-behind, sent-jobs, no-jobs, jobs-more, jobs-all}
use Rattle.spin_filter.proofs.passing.do_jobs.Goals as goal

pub loop-call-init : goal.loop-call-init
loop-call-init g c = no-jobs (passed_by c.args.passing.now) c.args.taken.now _

pub loop-call-preserved : goal.loop-call-preserved
loop-call-preserved g c =
    jobs-more (passed_by c.args.passing.now) c.args.taken.now c.args.calls.now c.loop-call.call-index c.call-item.result _ _ _
    (omega arith) c.call-item.is c.loop-call.invariant c.in_ok-do_job.ensures

pub returns : goal.returns
returns g c =
    jobs-all (passed_by c.args.passing.now) c.args.taken.now c.args.calls.now c.loop-call.call-index _ _ (omega arith) c.loop-call.invariant

pub returns-in_err-do_job : goal.returns-in_err-do_job
returns-in_err-do_job g c =
    let at = λ (o : _). outlets_at (map (view_of (λ e. (goal.Endpoint-dyn g (e.object.vtable, e.object.value)).seen e.object.value)) o.ends.ends.items)
    (with_waiting (g.W.Sink.seen o.file.sink) o.file.waiting) o.counts in
    let taken = c.args.taken.now in
    let d = data_of c.args.passing.now.setup.now in
    let st = c.args.passing.now.version.now.state in
    err-out c.from_residual.result c.in_err-do_job.field-0.0 _ _ c.from_residual.ensures.1
    (stop-behind c.args.passing.now.names.now c.args.passing.now.capture (IsOf taken (λ s. IsSentByJob d st s c.call-item.result)) (IsOf taken (λ s. Any (IsSentByJob d st s) c.args.calls.now)) _ _ _ (at c.do_job.new.outlets)
    c.in_err-do_job.field-0.0 (sent-jobs taken d st c.args.calls.now c.loop-call.call-index c.call-item.result (omega arith) c.call-item.is) c.loop-call.invariant.2 c.in_err-do_job.ensures)
