use Rattle.std.proofs.Common.{◌≡◌, ◌+◌, ◌<◌, [], ◌∷◌, ◌++◌, take, length, get_or, sym, ap, ◌∙◌, subst, arith}
use Rattle.std.proofs.lemmas.List.{take_more, length-take-le}
use Rattle.spin_proto.specs.declared.deed.Job.{Job}
use Rattle.spin_proto.specs.Replies.{BelongsTo}
use Rattle.spin_report.specs.declared.entry.Entry.{Entry}
use Rattle.spin_report.specs.Jobs.{answer_calls}
use Rattle.spin_seat.specs.Seats.{version_of}
use Rattle.spin_run.specs.Inner.Answering.{AddsJobs}
use Rattle.spin_run.proofs.EntryJobs.{adds_one}
use Rattle.spin_run.proofs.jobs_left.leave_jobs.Goals as goal

pub loop-call-preserved : goal.loop-call-preserved
loop-call-preserved c =
    let entry = c.args.entry.now in
    let numbers = c.entry.view_is in
    let own : c.calls-call-items.result.now ≡ answer_calls entry.what = c.calls-call-items.ensures ∙ ap (λ (e : Entry). answer_calls e.what) numbers in
    let version = version_of c.args.seat.now in
    let calls = answer_calls entry.what in
    let i = c.loop-call.call-index in
    let test = c.loop-call-test.true in
    let lt : i < length calls = omega (arith, test, ap length own) in
    let at : c.call-item.result ≡ get_or calls i c.call-item.result = c.call-item.is ∙ ap (λ l. get_or l i c.call-item.result) own in
    let copy : c.in_ok-copy.field-0 ≡ c.call-item.result = c.in_ok-copy.ensures in
    let same : get_or calls i c.call-item.result ≡ c.in_ok-copy.field-0 = sym (copy ∙ at) in
    let index : c.loop-call.index ≡ length (take i calls) = omega (arith, c.loop-call.invariant.1, length-take-le i calls (omega arith)) in
    let job : Job = record {
      version = c.in_ok-version.field-0;
      call = c.in_ok-copy.field-0;
      place = c.entry.inside.place;
      lane = c.entry.inside.lane;
      line = c.entry.inside.line;
      part = c.entry.inside.part;
      index = c.loop-call.index;
    } in
    let belongs : BelongsTo version.state job.call = subst (BelongsTo version.state) same (c.requires.belong i c.call-item.result lt) in
    let one : AddsJobs entry version (take i calls ++ job.call ∷ []) c.args.jobs.now c.push.new.self =
    adds_one entry version
    (take i calls) c.args.jobs.now c.loop-call.jobs c.push.new.self job c.loop-call.invariant.0 c.in_ok-push.ensures.ok
    (ap (λ (e : Entry). e.place) numbers) (ap (λ (e : Entry). e.lane) numbers) (ap (λ (e : Entry). e.line) numbers) (ap (λ (e : Entry). e.part) numbers) index c.in_ok-version.ensures belongs in
    let more : take (i + 1) calls ≡ take i calls ++ job.call ∷ [] = take_more calls i c.call-item.result lt ∙ ap (λ x. take i calls ++ x ∷ []) same in
    (subst (λ l. AddsJobs entry version l c.args.jobs.now c.push.new.self) (sym more) one, omega (arith, c.loop-call.invariant.1))
