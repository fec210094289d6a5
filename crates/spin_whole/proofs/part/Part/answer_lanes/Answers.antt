use Rattle.std.proofs.Common.{◌≡◌, ◌+◌, suc, subst, arith}
use Rattle.spin_table.specs.SetupOf.{data_of}
use Rattle.spin_report.specs.Segments.{asked_in, asked_of_lane}
use Rattle.spin_whole.specs.Inner.Parts.{Answers, by_lane}
use Rattle.spin_whole.proofs.AnswerSteps.{answers_nothing, answers_then, answers_place}
use Rattle.spin_whole.proofs.LaneAsks.{commands_both, lane_commands}
use Rattle.spin_whole.proofs.part.Part.answer_lanes.Goals as goal

pub loop-lane-init : goal.loop-lane-init
loop-lane-init g c = (answers_nothing (data_of c.args.setup.now) c.args.self.now, c.requires.sound)

pub answer_lane-requires-clause-sound : goal.answer_lane-requires-clause-sound
answer_lane-requires-clause-sound g c = c.loop-lane.invariant.1

pub answer_lane-requires-clause-room : goal.answer_lane-requires-clause-room
answer_lane-requires-clause-room g c =
    let d = data_of c.args.setup.now in
    let asked = asked_in c.args.lines.now c.args.records.now in
    let k = c.loop-lane.lane in
    let place = answers_place d (by_lane k asked) c.args.self.now c.loop-lane.self c.loop-lane.invariant.0 in
    let both = commands_both (by_lane k asked) (asked_of_lane k asked) in
    let most = lane_commands (suc k) c.args.lanes asked (omega (arith, c.loop-lane-test.true)) in
    omega (arith, place, both, most, c.requires.room)

pub loop-lane-preserved : goal.loop-lane-preserved
loop-lane-preserved g c =
    let d = data_of c.args.setup.now in
    let asked = asked_in c.args.lines.now c.args.records.now in
    let k = c.loop-lane.lane in
    let old = c.args.self.now in
    let new = c.answer_lane.new.self in
    let next : suc k ≡ k + 1 = omega arith in (
      subst (λ n. Answers d (by_lane n asked) old new) next
          (answers_then d (by_lane k asked) (asked_of_lane k asked) old c.loop-lane.self new c.loop-lane.invariant.0 c.in_ok-answer_lane.ensures.answers),
      c.in_ok-answer_lane.ensures.sound,
    )

pub returns-clause-answers : goal.returns-clause-answers
returns-clause-answers g c =
    let asked = asked_in c.args.lines.now c.args.records.now in
    let all : c.loop-lane.lane ≡ c.args.lanes = omega (arith, c.loop-lane-test.false) in
    subst (λ n. Answers (data_of c.args.setup.now) (by_lane n asked) c.args.self.now c.loop-lane.self) all c.loop-lane.invariant.0

pub returns-clause-sound : goal.returns-clause-sound
returns-clause-sound g c = c.loop-lane.invariant.1
