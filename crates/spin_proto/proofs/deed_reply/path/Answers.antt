use Rattle.std.specs.List.{All}
use Rattle.spin_table.specs.SetupOf.{data_of}
use Rattle.spin_raise.specs.declared.bound.Runner.TheVariants as runner
use Rattle.spin_proto.specs.declared.reply.TheConstants.{MAX_RUNS}
use Rattle.spin_word.specs.declared.work.Deed.TheVariants as deed
use Rattle.spin_proto.specs.declared.deed.JobCall.TheVariants as call
use Rattle.spin_proto.specs.declared.reply.Reply.TheVariants as reply
use Rattle.spin_proto.specs.Replies.{units_in, IsDeedReply, BelongsTo, calls_left}
use Rattle.spin_proto.specs.Whole.{raised, reply_of}
use Rattle.spin_proto.proofs.ReplyLemmas.{ok_map, deed_refused, deed_done, deed_calls, deed_left, IsOfRaise}
use Rattle.spin_proto.proofs.deed_reply.path.Goals as goal

pub returns-in-Some-clause-reply : goal.returns-in-Some-clause-reply
returns-in-Some-clause-reply g c =
    let d = data_of c.args.setup.now in
    let e = c.in-Raise.event in
    deed_refused d c.args.version.now.state c.requires.sound.state c.args.deed.now (deed.Raise e c.in-Raise.args) e c.in-Raise.args c.in-Some.refused c.in-Raise.is
    (λ bounds. c.in-Some.ensures.0 (reply_of MAX_RUNS (raised runner.Raiser (units_in d) bounds 0 e c.in-Raise.args)))

pub returns-in-Some-refusal-clause-reply : goal.returns-in-Some-refusal-clause-reply
returns-in-Some-refusal-clause-reply g c =
    let d = data_of c.args.setup.now in
    let e = c.in-Later.event in
    deed_refused d c.args.version.now.state c.requires.sound.state c.args.deed.now (deed.Later e c.in-Later.args) e c.in-Later.args c.in-Some-refusal.refused c.in-Later.is
    (λ bounds. c.in-Some-refusal.ensures.0 (reply.Queued (call.Whole e c.in-Later.args)))

pub returns-in_ok-args-in-None-clause-reply : goal.returns-in_ok-args-in-None-clause-reply
returns-in_ok-args-in-None-clause-reply g c =
    let d = data_of c.args.setup.now in
    let s = c.args.version.now.state in
    ok_map c.raise_whole.result (IsOfRaise d s c.requires.sound.state c.in-Raise.event c.in_ok-args-in-None.args) (IsDeedReply d s c.args.deed.now)
    (deed_done d s c.requires.sound.state c.args.deed.now c.in-Raise.event c.in-Raise.args c.in_ok-args-in-None.args c.in-Raise.is c.in_ok-args-in-None.ensures c.in-None.ensures.1)
    c.raise_whole.ensures

pub returns-in_ok-args-in-None-clause-calls : goal.returns-in_ok-args-in-None-clause-calls
returns-in_ok-args-in-None-clause-calls g c =
    let d = data_of c.args.setup.now in
    let s = c.args.version.now.state in
    ok_map c.raise_whole.result (IsOfRaise d s c.requires.sound.state c.in-Raise.event c.in_ok-args-in-None.args) (λ answer. All (BelongsTo s) (calls_left answer))
    (deed_calls d s c.requires.sound.state c.in-Raise.event c.in_ok-args-in-None.args)
    c.raise_whole.ensures

pub returns-in_ok-copy-in-None-refusal-clause-reply : goal.returns-in_ok-copy-in-None-refusal-clause-reply
returns-in_ok-copy-in-None-refusal-clause-reply g c =
    let d = data_of c.args.setup.now in
    deed_left d c.args.version.now.state c.requires.sound.state c.args.deed.now c.in-Later.event c.in-Later.args
    c.in_ok-copy-in-None-refusal.field-0 c.in-Later.is c.in_ok-copy-in-None-refusal.ensures c.in-None-refusal.ensures.1
