use Rattle.std.proofs.Common.{◌≡◌, ◌<◌, ◌^◌, length, refl, sym, ap, subst, ◌∙◌, arith}
use Rattle.std.specs.Prelude.{All}
use Rattle.std.specs.Arc.{arc_value}
use Rattle.std.proofs.lemmas.Result.{on_ok_weaker}
use Rattle.spin_proto.specs.Replies.{BelongsTo, IsDeedReply, calls_left}
use Rattle.spin_proto.proofs.JobCounts.{calls_few}
use Rattle.spin_table.specs.SetupOf.{data_of}
use Rattle.spin_table.specs.Soundness.{IsSoundVersion}
use Rattle.spin_table.specs.States.{VersionValue}
use Rattle.spin_report.specs.declared.entry.What.{What}
use Rattle.spin_report.specs.declared.entry.What.TheVariants as what
use Rattle.spin_report.specs.Jobs.{answer_calls}
use Rattle.spin_report.specs.declared.entry.Entry.{Entry}
use Rattle.spin_whole.specs.Inner.Parts.{AddsEntry, state_of}
use Rattle.spin_whole.proofs.AnswerSteps.{one_answered}
use Rattle.spin_whole.proofs.part.Part.answer_deed.Goals as goal

pub path-requires-clause-sound : goal.path-requires-clause-sound
path-requires-clause-sound g c = subst (IsSoundVersion (data_of c.args.setup.now)) (sym c.deref.ensures) c.requires.sound

pub add-requires-clause-belong : goal.add-requires-clause-belong
add-requires-clause-belong g c =
    let s = state_of c.args.self.now in
    let own : All (BelongsTo s) (calls_left c.in_ok-reply.reply) = subst (λ (t : VersionValue). All (BelongsTo t.state) (calls_left c.in_ok-reply.reply)) c.deref.ensures c.in_ok-reply.ensures.calls in
    subst (λ (w : What). All (BelongsTo s) (answer_calls w)) (sym c.answered-what.ensures) own

pub add-requires-clause-few : goal.add-requires-clause-few
add-requires-clause-few g c =
    let few = calls_few (data_of c.args.setup.now) c.deref.result.now.state c.args.deed.now c.in_ok-reply.reply c.in_ok-reply.ensures.reply in
    subst (λ (w : What). length (answer_calls w) < 2 ^ 32) (sym c.answered-what.ensures) (omega (arith, few))

pub returns-clause-answers : goal.returns-clause-answers
returns-clause-answers g c =
    let d = data_of c.args.setup.now in
    let line = c.args.line.now in
    let old = c.args.self.now in
    let reply = c.in_ok-reply.reply in
    let entry : Entry = record { place = c.place.result; lane = line.lane; line = line.number; part = c.args.part; what = what.Deed c.args.deed.now reply } in
    let place : entry.place ≡ (state_of old).place = c.place.ensures ∙ ap (λ (t : VersionValue). t.state.place) c.deref-2.ensures in
    let is = subst (λ (t : VersionValue). IsDeedReply d t.state c.args.deed.now reply) c.deref.ensures c.in_ok-reply.ensures.reply in
    let lent : Entry = record entry { what = c.answered-what.result } in
    let same : lent ≡ entry = λ i. record entry { what = c.answered-what.ensures i } in
    on_ok_weaker c.add.result
    (λ (adds : AddsEntry d lent old c.add.new.self).
    one_answered d old old c.add.new.self entry ((is, refl), place) refl refl refl refl (subst (λ (e : Entry). AddsEntry d e old c.add.new.self) same adds))
    c.add.ensures

pub returns-clause-sound : goal.returns-clause-sound
returns-clause-sound g c =
    let d = data_of c.args.setup.now in
    let line = c.args.line.now in
    let old = c.args.self.now in
    let entry : Entry = record { place = c.place.result; lane = line.lane; line = line.number; part = c.args.part; what = c.answered-what.result } in
    on_ok_weaker c.add.result
    (λ (adds : AddsEntry d entry old c.add.new.self). subst (λ v. IsSoundVersion d (arc_value v)) (sym adds.version) c.requires.sound)
    c.add.ensures
