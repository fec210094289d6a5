use Rattle.std.proofs.Common.{◌+◌, List, take, refl, sym, subst, arith}
use Rattle.spin_values.specs.declared.values.Value.{Value}
use Rattle.spin_word.specs.declared.work.Work.TheVariants as work
use Rattle.spin_word.specs.declared.work.Deed.TheVariants as deed
use Rattle.spin_table.specs.SetupOf.{data_of}
use Rattle.spin_report.specs.Segments.{raise_with}
use Rattle.spin_whole.specs.Inner.Parts.{Answers, alone, packets}
use Rattle.spin_whole.proofs.AnswerSteps.{answers_nothing, answers_then}
use Rattle.spin_whole.proofs.LaneAsks.{packets_more}
use Rattle.spin_whole.proofs.part.Part.answer_packets.Goals as goal

pub loop-frame-init : goal.loop-frame-init
loop-frame-init g c = (answers_nothing (data_of c.args.setup.now) c.args.self.now, c.requires.sound, refl)

pub loop-frame-preserved : goal.loop-frame-preserved
loop-frame-preserved g c =
    let d = data_of c.args.setup.now in
    let line = c.args.line.now in
    let old = c.args.self.now in
    let now = c.loop-frame.self in
    let new = c.answer_deed.new.self in
    let i = c.loop-frame.frame-index in
    let part = c.loop-frame.part + 1 in
    let frame = c.frame-item.result in
    let lt = c.loop-frame-test.true in
    let number = c.loop-frame.invariant.2 in
    let step : Answers d (alone line part (raise_with c.args.event frame)) now new =
    subst (λ (args : List Value). Answers d (alone line part (work.Deed (deed.Raise c.args.event args))) now new) c.in_ok-args.ensures c.in_ok-answer_deed.ensures.answers in
    let more = packets_more line c.args.event i part c.args.records.now frame (omega (arith, lt)) c.frame-item.is (omega (arith, number)) in (
      subst (λ l. Answers d l old new) (sym more) (answers_then d (packets line c.args.event 1 (take i c.args.records.now)) (alone line part (raise_with c.args.event frame)) old now new c.loop-frame.invariant.0 step),
      c.in_ok-answer_deed.ensures.sound,
      omega (arith, number),
    )
