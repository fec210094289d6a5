use Rattle.std.proofs.Common.{◌+◌, refl, sym, subst, arith}
use Rattle.std.specs.Arc.{arc_value}
use Rattle.spin_table.specs.SetupOf.{data_of}
use Rattle.spin_table.specs.States.{VersionValue}
use Rattle.spin_table.specs.Soundness.{IsSoundVersion}
use Rattle.spin_proto.specs.Replies.{BelongsTo, IsJobReply}
use Rattle.spin_report.specs.Jobs.{entry_job}
use Rattle.spin_check.proofs.JobLemmas.{done_more, done_short, call_belongs}
use Rattle.spin_check.proofs.jobs.do_jobs.Goals as goal

pub do_job-requires-clause-sound : goal.do_job-requires-clause-sound
do_job-requires-clause-sound g c = subst (IsSoundVersion (data_of c.args.setup.now)) (sym c.in_ok-try_clone.ensures) c.requires.sound

pub do_job-requires-clause-belongs : goal.do_job-requires-clause-belongs
do_job-requires-clause-belongs g c =
    let s = (arc_value c.args.version.now).state in
    let now = c.loop-call in
    subst (λ (t : VersionValue). BelongsTo t.state c.in-Some.call) (sym c.in_ok-try_clone.ensures)
    (call_belongs (data_of c.args.setup.now) s c.args.entry c.args.out.now c.args.sends.now c.in-Some.call now.calls.items c.pop_front.new.self.items now.index now.out now.sends
    c.in-Some.ensures.items c.requires.belong c.requires.few now.invariant).0

pub loop-call-preserved-else-len-room : goal.loop-call-preserved-else-len-room
loop-call-preserved-else-len-room g c =
    let d = data_of c.args.setup.now in
    let s = (arc_value c.args.version.now).state in
    let now = c.loop-call in
    let call = c.in-Some.call in
    let did = c.in_ok-do_job.ensures in
    let reply = did.0 in
    let is : IsJobReply d s call reply = subst (λ (t : VersionValue). IsJobReply d t.state call reply) c.in_ok-try_clone.ensures did.1 in
    done_more d s c.args.entry c.args.out.now c.args.sends.now call now.calls.items c.pop_front.new.self.items now.index now.out now.sends c.do_job.new.out c.do_job.new.sends
    reply (entry_job c.args.entry now.index reply) c.in-Some.ensures.items now.invariant is refl did.2 did.3

pub loop-call-preserved : goal.loop-call-preserved
loop-call-preserved g c =
    let d = data_of c.args.setup.now in
    let s = (arc_value c.args.version.now).state in
    let now = c.loop-call in
    let call = c.in-Some.call in
    let did = c.in_ok-do_job.ensures in
    let reply = did.0 in
    let is : IsJobReply d s call reply = subst (λ (t : VersionValue). IsJobReply d t.state call reply) c.in_ok-try_clone.ensures did.1 in
    done_more d s c.args.entry c.args.out.now c.args.sends.now call now.calls.items c.pop_front.new.self.items now.index now.out now.sends c.do_job.new.out c.do_job.new.sends
    reply (entry_job c.args.entry now.index reply) c.in-Some.ensures.items now.invariant is refl did.2 did.3

pub returns-then-len-room : goal.returns-then-len-room
returns-then-len-room g c =
    let d = data_of c.args.setup.now in
    let s = (arc_value c.args.version.now).state in
    let now = c.loop-call in
    let call = c.in-Some.call in
    let did = c.in_ok-do_job.ensures in
    let reply = did.0 in
    let is : IsJobReply d s call reply = subst (λ (t : VersionValue). IsJobReply d t.state call reply) c.in_ok-try_clone.ensures did.1 in
    let done = done_more d s c.args.entry c.args.out.now c.args.sends.now call now.calls.items c.pop_front.new.self.items now.index now.out now.sends c.do_job.new.out c.do_job.new.sends
    reply (entry_job c.args.entry now.index reply) c.in-Some.ensures.items now.invariant is refl did.2 did.3 in
    done_short d s c.args.entry c.args.out.now c.args.sends.now c.pop_front.new.self.items (now.index + 1) c.do_job.new.out c.do_job.new.sends c.args.room done
    (omega (arith, c.if-len-room.true, c.len.ensures))
