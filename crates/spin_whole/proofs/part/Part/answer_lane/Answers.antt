use Rattle.std.proofs.Common.{◌<◌, ◌+◌, drop, length, sym, subst, arith}
use Rattle.spin_table.specs.SetupOf.{data_of}
use Rattle.spin_script.specs.declared.script.Line.{Line}
use Rattle.spin_script.specs.Soundness.{IsValidWork}
use Rattle.spin_report.specs.Segments.{asked_at, asked_in, asked_of_lane}
use Rattle.spin_whole.proofs.AnswerSteps.{IsGone, gone_none, gone_same, gone_more, gone_room, gone_all}
use Rattle.spin_whole.proofs.LaneAsks.{next_own, next_other}
use Rattle.spin_whole.proofs.part.Part.answer_lane.Goals as goal
use Rattle.spin_whole.proofs.part.Part.answer_lane.Goals.{then-line-lane+in_ok-answer_line, else-line-lane}

pub loop-line-init : goal.loop-line-init
loop-line-init g c = gone_none (data_of c.args.setup.now) (asked_of_lane c.args.lane (asked_in c.args.lines.now c.args.records.now)) c.args.self.now c.requires.sound

pub answer_line-requires-clause-sound : goal.answer_line-requires-clause-sound
answer_line-requires-clause-sound g c = c.loop-line.invariant.sound

pub answer_line-requires-clause-valid : goal.answer_line-requires-clause-valid
answer_line-requires-clause-valid g c =
    let line = c.line-item.result in
    subst (λ (l : Line). IsValidWork l.work) (sym c.line-item.is) (c.requires.valid c.loop-line.line-index line (omega (arith, c.loop-line-test.true)))

pub answer_line-requires-clause-room : goal.answer_line-requires-clause-room
answer_line-requires-clause-room g c =
    let lines = c.args.lines.now in
    let line = c.line-item.result in
    let i = c.loop-line.line-index in
    let k = c.args.lane in
    let left = c.loop-line.left.now in
    let taken = c.split_records.result.0.now in
    let others = c.split_records.result.1.now in
    let parts = next_own k i lines line left taken others (omega (arith, c.loop-line-test.true)) c.line-item.is c.if-line-lane.true c.split_records.ensures.records c.split_records.ensures.others in
    gone_room (data_of c.args.setup.now) (asked_of_lane k (asked_in lines c.args.records.now)) (asked_of_lane k (asked_in (drop i lines) left)) (asked_at line taken)
    (asked_of_lane k (asked_in (drop (i + 1) lines) others)) c.args.self.now c.loop-line.self parts c.requires.room c.loop-line.invariant

pub loop-line-preserved : goal.loop-line-preserved
loop-line-preserved g c =
    let d = data_of c.args.setup.now in
    let old = c.args.self.now in
    let now = c.loop-line.self in
    let lines = c.args.lines.now in
    let line = c.line-item.result in
    let i = c.loop-line.line-index in
    let k = c.args.lane in
    let left = c.loop-line.left.now in
    let taken = c.split_records.result.0.now in
    let others = c.split_records.result.1.now in
    let whole = asked_of_lane k (asked_in lines c.args.records.now) in
    let rest = asked_of_lane k (asked_in (drop i lines) left) in
    let next = asked_of_lane k (asked_in (drop (i + 1) lines) others) in
    let lt : i < length lines = omega (arith, c.loop-line-test.true) in
    elim c.if-line-lane.branch [
      | then-line-lane+in_ok-answer_line w ↦
          let parts = next_own k i lines line left taken others lt c.line-item.is w.if-line-lane.true c.split_records.ensures.records c.split_records.ensures.others in
          subst (IsGone d whole next old) (sym w.self-is)
          (gone_more d whole rest (asked_at line taken) next old now w.answer_line.new.self parts w.in_ok-answer_line.ensures.answers w.in_ok-answer_line.ensures.sound c.loop-line.invariant)
      | else-line-lane w ↦
          let same = next_other k i lines line left others lt c.line-item.is w.if-line-lane.false c.split_records.ensures.others in
          subst (IsGone d whole next old) (sym w.self-is) (gone_same d whole rest next old now same c.loop-line.invariant)
    ]

pub returns-clause-answers : goal.returns-clause-answers
returns-clause-answers g c =
    gone_all (data_of c.args.setup.now) (asked_of_lane c.args.lane (asked_in c.args.lines.now c.args.records.now)) c.args.self.now c.loop-line.self c.args.lane
    c.loop-line.line-index c.args.lines.now c.loop-line.left.now (omega (arith, c.loop-line-test.false)) c.loop-line.invariant

pub returns-clause-sound : goal.returns-clause-sound
returns-clause-sound g c = c.loop-line.invariant.sound
