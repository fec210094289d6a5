use Rattle.std.proofs.Common.{subst}
use Rattle.std.specs.Prelude.{All}
use Rattle.std.specs.Arc.{arc_value}
use Rattle.spin_table.specs.SetupOf.{data_of}
use Rattle.spin_table.specs.States.{VersionValue}
use Rattle.spin_proto.specs.Replies.{IsDeedReply, BelongsTo, calls_left}
use Rattle.spin_check.proofs.AnswerLemmas.{deed_done}
use Rattle.spin_check.proofs.answer.do_deed.Goals as goal

pub returns : goal.returns
returns g c = λ report.
    let d = data_of c.args.setup.now in
    let reply = c.in_ok-reply.reply in
    deed_done d (arc_value c.args.version.now) (arc_value c.in_ok-same.same) c.args.deed reply report
    (subst (λ (t : VersionValue). IsDeedReply d t.state c.args.deed reply) c.deref.ensures c.in_ok-reply.ensures.reply) c.requires.sound
    (subst (λ (t : VersionValue). All (BelongsTo t.state) (calls_left reply)) c.deref.ensures c.in_ok-reply.ensures.calls) c.in_ok-same.ensures
