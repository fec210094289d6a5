use Rattle.std.proofs.Common.{◌≡◌, [], sym, ap, ◌∙◌}
use Rattle.spin_table.specs.SetupOf.{data_of}
use Rattle.spin_proto.specs.declared.deed.JobCall.TheVariants as call
use Rattle.spin_proto.specs.Replies.{units_in, job_reply, IsJobReply, calls_left}
use Rattle.spin_proto.specs.Inner.Walks.{OnBounds}
use Rattle.spin_proto.proofs.ReplyLemmas.{ok_map, job_done, no_calls_of}
use Rattle.spin_proto.proofs.jobs.job_path.Goals as goal

pub returns-in_ok-args-in-Whole-clause-reply : goal.returns-in_ok-args-in-Whole-clause-reply
returns-in_ok-args-in-Whole-clause-reply g c =
    let d = data_of c.args.setup.now in
    let s = c.args.version.now.state in
    let copy = c.in_ok-args-in-Whole.args in
    let made = call.Whole c.in-Whole.event copy in
    ok_map c.raise_whole.result (λ answer. OnBounds d s (λ bounds. answer ≡ job_reply (units_in d) bounds made)) (IsJobReply d s c.args.call.now)
    (job_done d s c.requires.sound.state c.args.call.now made (c.in-Whole.is ∙ ap (λ xs. call.Whole c.in-Whole.event xs) (sym c.in_ok-args-in-Whole.ensures)))
    c.raise_whole.ensures

pub returns-in_ok-args-in-Whole-clause-calls : goal.returns-in_ok-args-in-Whole-clause-calls
returns-in_ok-args-in-Whole-clause-calls g c =
    let d = data_of c.args.setup.now in
    let s = c.args.version.now.state in
    let made = call.Whole c.in-Whole.event c.in_ok-args-in-Whole.args in
    ok_map c.raise_whole.result (λ answer. OnBounds d s (λ bounds. answer ≡ job_reply (units_in d) bounds made)) (λ answer. calls_left answer ≡ [])
    (no_calls_of d s c.requires.sound.state made)
    c.raise_whole.ensures

pub returns-in_ok-copy-in-Binding-clause-reply : goal.returns-in_ok-copy-in-Binding-clause-reply
returns-in_ok-copy-in-Binding-clause-reply g c =
    let d = data_of c.args.setup.now in
    let s = c.args.version.now.state in
    let copy = c.in_ok-copy-in-Binding.field-0 in
    let made = call.Binding c.in-Binding.event c.in-Binding.number copy in
    ok_map c.binding_job.result (λ answer. OnBounds d s (λ bounds. answer ≡ job_reply (units_in d) bounds made)) (IsJobReply d s c.args.call.now)
    (job_done d s c.requires.sound.state c.args.call.now made (c.in-Binding.is ∙ ap (λ xs. call.Binding c.in-Binding.event c.in-Binding.number xs) (sym c.in_ok-copy-in-Binding.ensures)))
    c.binding_job.ensures

pub returns-in_ok-copy-in-Binding-clause-calls : goal.returns-in_ok-copy-in-Binding-clause-calls
returns-in_ok-copy-in-Binding-clause-calls g c =
    let d = data_of c.args.setup.now in
    let s = c.args.version.now.state in
    let made = call.Binding c.in-Binding.event c.in-Binding.number c.in_ok-copy-in-Binding.field-0 in
    ok_map c.binding_job.result (λ answer. OnBounds d s (λ bounds. answer ≡ job_reply (units_in d) bounds made)) (λ answer. calls_left answer ≡ [])
    (no_calls_of d s c.requires.sound.state made)
    c.binding_job.ensures
