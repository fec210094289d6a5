use Rattle.std.proofs.Common.{◌+◌, ℕ, List, [], ◌∷◌, ◌∙◌, take, refl, sym, ap, subst, arith, length-take}
use Rattle.spin_word.specs.declared.work.Work.TheVariants as work
use Rattle.spin_word.specs.declared.work.Deed.TheVariants as deed
use Rattle.spin_values.specs.declared.values.Value.{Value}
use Rattle.spin_values.specs.declared.values.Value.TheVariants as value
use Rattle.spin_table.specs.SetupOf.{data_of}
use Rattle.spin_report.specs.Segments.{raise_with}
use Rattle.spin_run.specs.Inner.Answering.{Answers, asked_alone, asked_packets}
use Rattle.spin_run.proofs.AskedOfLane.{packets_more, packets_count}
use Rattle.spin_run.proofs.LaneAnswers.{answers_nothing, answers_then, answers_count}
use Rattle.spin_run.proofs.LaneProgress.{stays_then, packets_short}
use Rattle.spin_run.proofs.lane.Lane.answer_packets.Goals as goal

pub answer_deed-requires-clause-few : goal.answer_deed-requires-clause-few
answer_deed-requires-clause-few g c κs within =
    let i = c.loop-frame.frame-index in
    let done = take i c.args.records.now in
    let lane = c.args.self.now.seat.pen.lane in
    let lt = c.loop-frame-test.true in
    let few = c.requires.few in
    let count = answers_count (data_of c.args.by.now.hub.now.setup) (asked_packets lane c.args.line c.args.event 1 done) c.args.self.now c.loop-frame.self c.loop-frame.invariant.0 in
    omega (arith, lt, few, count, packets_count lane c.args.line c.args.event 1 done, length-take i c.args.records.now)

pub loop-frame-init : goal.loop-frame-init
loop-frame-init g c = (answers_nothing (data_of c.args.by.now.hub.now.setup) c.args.self.now, ((c.requires.seat, refl), (refl, refl, refl)), refl)

pub loop-frame-preserved : goal.loop-frame-preserved
loop-frame-preserved g c =
    let d = data_of c.args.by.now.hub.now.setup in
    let old = c.args.self.now in
    let now = c.loop-frame.self in
    let new = c.answer_deed.new.self in
    let i = c.loop-frame.frame-index in
    let lane = old.seat.pen.lane in
    let part = c.loop-frame.part + 1 in
    let frame = c.frame-item.result in
    let lt = c.loop-frame-test.true in
    let number = c.loop-frame.invariant.2 in
    let first = asked_packets lane c.args.line c.args.event 1 (take i c.args.records.now) in
    let one = asked_alone lane c.args.line part (raise_with c.args.event frame) in
    let step : Answers d one now new =
    subst (λ (x : ℕ × List Value). Answers d (asked_alone x.0 c.args.line part (work.Deed (deed.Raise c.args.event x.1))) now new)
    (λ j. (c.loop-frame.invariant.1.1.2 j, (c.in_ok-args.ensures ∙ ap (λ (b : List ℕ). value.Bytes b ∷ []) c.deref.ensures) j)) c.in_ok-answer_deed.ensures.ok in
    let more = packets_more lane c.args.line c.args.event i part c.args.records.now frame lt c.frame-item.is (omega (arith, number)) in (
      subst (λ l. Answers d l old new) (sym more) (answers_then d first one old now new c.loop-frame.invariant.0 step),
      stays_then d old now new c.loop-frame.invariant.1 c.answer_deed.ensures.stays,
      omega (arith, number),
    )

pub returns-in_err-args-clause-err : goal.returns-in_err-args-clause-err
returns-in_err-args-clause-err g c =
    packets_short (data_of c.args.by.now.hub.now.setup) c.args.self.now.seat.pen.lane c.args.line c.args.event c.loop-frame.frame-index c.args.records.now c.frame-item.result
    c.args.self.now c.loop-frame.self c.loop-frame.self c.from_residual.result c.loop-frame-test.true c.loop-frame.invariant.0

pub returns-in_err-answer_deed-clause-err : goal.returns-in_err-answer_deed-clause-err
returns-in_err-answer_deed-clause-err g c =
    packets_short (data_of c.args.by.now.hub.now.setup) c.args.self.now.seat.pen.lane c.args.line c.args.event c.loop-frame.frame-index c.args.records.now c.frame-item.result
    c.args.self.now c.loop-frame.self c.answer_deed.new.self c.from_residual-in_err-answer_deed.result c.loop-frame-test.true c.loop-frame.invariant.0
