use Rattle.spin_endpoint.specs.Inner.View.{view_of}
use Rattle.spin_frames.specs.Written.{with_waiting}
use Rattle.spin_filter.specs.Sending.{outlets_at, IsDone}
use Rattle.std.proofs.Common.{◌≡◌, ℕ, List, [], ◌∷◌, map, refl, ◌∙◌, ap, subst}
use Rattle.spin_values.specs.declared.values.Value.TheVariants as value
use Rattle.spin_proto.specs.declared.deed.JobCall.{JobCall}
use Rattle.spin_proto.specs.declared.reply.Step.{Step}
use Rattle.spin_filter.specs.Counting.{just_outcome, just_steps, later_steps}
use Rattle.spin_filter.proofs.Stopped.{err-out}
use Rattle.std.specs.Prelude.{Any}
use Rattle.spin_filter.specs.Inner.Sends.{IsOf}
use Rattle.spin_filter.specs.Stops.{IsSentIn, IsSentByJob, IsSentAt}
use Rattle.spin_filter.proofs.Doings.{passed_by, DoesJobs, stop-behind, stop-here, of-same, raise-seen, sent-raise, sent-later, done-outcome, record-whole}
use Rattle.spin_filter.proofs.passing.pass_record.Goals as goal

pub returns : goal.returns
returns g c =
    let at = λ (o : _). outlets_at (map (view_of (λ e. (goal.Endpoint-dyn g (e.object.vtable, e.object.value)).seen e.object.value)) o.ends.ends.items)
    (with_waiting (g.W.Sink.seen o.file.sink) o.file.waiting) o.counts in
    let by = passed_by c.args.passing.now in
    let taken = c.args.taken.now in
    let view = c.view-view.result in
    let old = at c.args.outlets.now in
    let noted = at (record c.args.outlets.now { counts = c.note_outcome.new.self }) in
    let stepped = at c.do_steps.new.outlets in
    let done = at c.do_jobs.new.outlets in
    let told : c.in_ok-args.args ≡ value.Bytes taken.packet.frame ∷ [] = c.in_ok-args.ensures ∙ ap (λ f. value.Bytes f ∷ []) c.frame.ensures in
    record-whole by taken c.args.event view old noted stepped done (raise-seen by.setup by.state c.args.event taken.packet.frame _ _ view told c.in_ok-path_into.ensures.reply c.view-view.ensures)
    (subst (λ (n : ℕ). IsDone by.names by.capture (just_outcome n) old noted) c.outcome_of.ensures (done-outcome by.names by.capture c.outcome_of.result old noted refl refl c.note_outcome.ensures))
    (subst (λ (ss : List Step). IsDone by.names by.capture (just_steps taken (later_steps ss)) noted stepped) c.trace-steps.ensures c.in_ok-do_steps.ensures)
    (subst (λ (cs : List JobCall). DoesJobs by taken cs stepped done) c.calls-calls.ensures c.in_ok-do_jobs.ensures)

pub returns-in_err-do_steps : goal.returns-in_err-do_steps
returns-in_err-do_steps g c =
    let at = λ (o : _). outlets_at (map (view_of (λ e. (goal.Endpoint-dyn g (e.object.vtable, e.object.value)).seen e.object.value)) o.ends.ends.items)
    (with_waiting (g.W.Sink.seen o.file.sink) o.file.waiting) o.counts in
    let by = passed_by c.args.passing.now in
    let taken = c.args.taken.now in
    let view = c.view-view.result in
    let told : c.in_ok-args.args ≡ value.Bytes taken.packet.frame ∷ [] = c.in_ok-args.ensures ∙ ap (λ f. value.Bytes f ∷ []) c.frame.ensures in
    let answer = raise-seen by.setup by.state c.args.event taken.packet.frame _ _ view told c.in_ok-path_into.ensures.reply c.view-view.ensures in
    err-out c.from_residual-in_err-do_steps.result c.in_err-do_steps.field-0.0 _ _ c.from_residual-in_err-do_steps.ensures.1
    (stop-here by.names by.capture (IsOf taken (IsSentIn c.trace-steps.result.now)) (IsOf taken (IsSentAt by.setup by.state c.args.event)) (at c.args.outlets.now)
    (at (record c.args.outlets.now { counts = c.note_outcome.new.self })) (at c.do_steps.new.outlets) c.in_err-do_steps.field-0.0
    (sent-raise taken by.setup by.state c.args.event view c.trace-steps.result.now answer c.trace-steps.ensures) refl refl c.in_err-do_steps.ensures)

pub returns-in_err-do_jobs : goal.returns-in_err-do_jobs
returns-in_err-do_jobs g c =
    let at = λ (o : _). outlets_at (map (view_of (λ e. (goal.Endpoint-dyn g (e.object.vtable, e.object.value)).seen e.object.value)) o.ends.ends.items)
    (with_waiting (g.W.Sink.seen o.file.sink) o.file.waiting) o.counts in
    let by = passed_by c.args.passing.now in
    let taken = c.args.taken.now in
    let view = c.view-view.result in
    let calls = c.calls-calls.result.now in
    let noted = at (record c.args.outlets.now { counts = c.note_outcome.new.self }) in
    let Here = IsOf taken (IsSentAt by.setup by.state c.args.event) in
    let told : c.in_ok-args.args ≡ value.Bytes taken.packet.frame ∷ [] = c.in_ok-args.ensures ∙ ap (λ f. value.Bytes f ∷ []) c.frame.ensures in
    let answer = raise-seen by.setup by.state c.args.event taken.packet.frame _ _ view told c.in_ok-path_into.ensures.reply c.view-view.ensures in
    err-out c.from_residual-in_err-do_jobs.result c.in_err-do_jobs.field-0.0 _ _ c.from_residual-in_err-do_jobs.ensures.1
    (stop-here by.names by.capture Here Here (at c.args.outlets.now) noted (at c.do_jobs.new.outlets) c.in_err-do_jobs.field-0.0 (of-same Here) refl refl
    (stop-behind by.names by.capture (IsOf taken (λ s. Any (IsSentByJob by.setup by.state s) calls)) Here _ noted _ (at c.do_jobs.new.outlets) c.in_err-do_jobs.field-0.0
    (sent-later taken by.setup by.state c.args.event view calls answer c.calls-calls.ensures) c.in_ok-do_steps.ensures c.in_err-do_jobs.ensures))
