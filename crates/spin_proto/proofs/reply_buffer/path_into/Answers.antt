use Rattle.std.specs.List.{All}
use Rattle.spin_table.specs.SetupOf.{data_of}
use Rattle.spin_raise.specs.declared.bound.Runner.TheVariants as runner
use Rattle.spin_word.specs.declared.work.Deed.TheVariants as deed
use Rattle.spin_proto.specs.declared.reply.TheConstants.{MAX_RUNS}
use Rattle.spin_proto.specs.Replies.{units_in, IsDeedReply, BelongsTo, calls_left}
use Rattle.spin_proto.specs.Whole.{raised, reply_of}
use Rattle.std.proofs.Common.{refl}
use Rattle.spin_proto.proofs.ReplyLemmas.{on_ok_map, deed_refused, deed_done, deed_calls, IsOfRaise}
use Rattle.spin_proto.proofs.reply_buffer.path_into.Goals as goal

pub returns-in-Some-clause-reply : goal.returns-in-Some-clause-reply
returns-in-Some-clause-reply g c =
    let d = data_of c.args.setup.now in
    let e = c.in-Raise.event in
    deed_refused d c.args.version.now.state c.requires.sound.state c.args.deed.now (deed.Raise e c.in-Raise.args) e c.in-Raise.args c.in-Some.refused c.in-Raise.is
    (λ bounds. c.in-Some.ensures.0 (reply_of MAX_RUNS (raised runner.Raiser (units_in d) bounds 0 e c.in-Raise.args)))

pub returns-in-None-clause-reply : goal.returns-in-None-clause-reply
returns-in-None-clause-reply g c =
    let d = data_of c.args.setup.now in
    let s = c.args.version.now.state in
    on_ok_map c.raise_into.result (IsOfRaise d s c.requires.sound.state c.in-Raise.event c.in-Raise.args c.raise_into.new.buffer) (IsDeedReply d s c.args.deed.now c.raise_into.new.buffer)
    (deed_done d s c.requires.sound.state c.args.deed.now c.in-Raise.event c.in-Raise.args c.in-Raise.args c.in-Raise.is refl c.in-None.ensures.1 c.raise_into.new.buffer)
    c.raise_into.ensures

pub returns-in-None-clause-calls : goal.returns-in-None-clause-calls
returns-in-None-clause-calls g c =
    let d = data_of c.args.setup.now in
    let s = c.args.version.now.state in
    on_ok_map c.raise_into.result (IsOfRaise d s c.requires.sound.state c.in-Raise.event c.in-Raise.args c.raise_into.new.buffer) (All (BelongsTo s) (calls_left c.raise_into.new.buffer))
    (deed_calls d s c.requires.sound.state c.in-Raise.event c.in-Raise.args c.raise_into.new.buffer)
    c.raise_into.ensures
