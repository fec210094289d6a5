use Rattle.std.proofs.Common.{◌≡◌, ◌<◌, List, length, get_or, sym, ap, subst, ◌∙◌}
use Rattle.std.specs.Arc.{arc_value}
use Rattle.spin_table.specs.SetupOf.{data_of}
use Rattle.spin_table.specs.States.{State}
use Rattle.spin_proto.specs.declared.deed.JobCall.{JobCall}
use Rattle.spin_proto.specs.Replies.{IsJobReply}
use Rattle.spin_report.specs.declared.entry.Entry.{Entry}
use Rattle.spin_report.specs.Jobs.{answer_calls, entry_job}
use Rattle.spin_whole.proofs.JobSteps.{first_none, first_more}
use Rattle.spin_whole.proofs.jobs.do_jobs.Goals as goal

pub loop-call-init : goal.loop-call-init
loop-call-init g c = first_none (data_of c.args.setup.now) (arc_value c.args.version.now).state c.args.entry.now (answer_calls c.args.entry.now.what) c.args.out.now c.args.sends.now

pub loop-call-preserved : goal.loop-call-preserved
loop-call-preserved g c =
    let d = data_of c.args.setup.now in
    let s = (arc_value c.args.version.now).state in
    let entry = c.args.entry.now in
    let now = c.loop-call in
    let call = c.call-item.result in
    let did = c.in_ok-do_job.ensures in
    let reply = did.0 in
    let calls : c.calls-call-items.result.now ≡ answer_calls entry.what = c.calls-call-items.ensures ∙ ap (λ (e : Entry). answer_calls e.what) c.entry.view_is in
    let is : IsJobReply d s call reply = subst (λ (t : State × JobCall). IsJobReply d t.0 t.1 reply) (λ i. ((c.in_ok-try_clone.ensures i).state, c.in_ok-copy.ensures i)) did.1 in
    let lt : now.call-index < length (answer_calls entry.what) = subst (λ (l : List JobCall). now.call-index < length l) calls c.loop-call-test.true in
    let item : get_or (answer_calls entry.what) now.call-index call ≡ call = ap (λ (l : List JobCall). get_or l now.call-index call) (sym calls) ∙ sym c.call-item.is in
    let inside = c.entry.inside in
    let view : Entry = record { place = inside.place; lane = inside.lane; line = inside.line; part = inside.part; what = inside.what } in
    first_more d s entry (answer_calls entry.what) now.call-index c.args.out.now c.args.sends.now call now.index now.out c.do_job.new.out now.sends c.do_job.new.sends
    reply (entry_job view now.index reply) lt item now.invariant is (ap (λ (e : Entry). entry_job e now.index reply) c.entry.view_is) did.2 did.3
