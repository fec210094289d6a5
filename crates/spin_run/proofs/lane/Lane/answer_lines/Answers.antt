use Rattle.std.proofs.Common.{◌≡◌, ◌<◌, ◌∙◌, ◌+◌, length, get_or, sym, ap, subst, arith}
use Rattle.std.specs.Prelude.{Err}
use Rattle.spin_table.specs.SetupOf.{data_of}
use Rattle.spin_report.specs.Segments.{asked_at, asked_in, asked_of_lane}
use Rattle.spin_run.specs.Inner.Answering.{Answers, Comes}
use Rattle.spin_run.proofs.LaneAnswers.{err_is}
use Rattle.spin_run.proofs.LaneProgress.{Progress, rest_at, begins, skips, goes_on, ends, line_few}
use Rattle.spin_run.proofs.lane.Lane.answer_lines.Goals as goal
use Rattle.spin_run.proofs.lane.Lane.answer_lines.Goals.{then-line-lane+in_ok-answer_line, else-line-lane}

pub loop-line-init : goal.loop-line-init
loop-line-init g c =
    begins (data_of c.args.hub.now.setup) c.args.self.now.seat.pen.lane c.args.segment.now.lines
    c.args.frames.now c.as_slice-left.result.now c.args.self.now c.as_slice-left.ensures c.requires.ready.seat.0

pub answer_line-requires-clause-few : goal.answer_line-requires-clause-few
answer_line-requires-clause-few g c κs within =
    let d = data_of c.args.hub.now.setup in
    let old = c.args.self.now in
    let lines = c.args.segment.now.lines in
    let line = c.line-item.result in
    let i = c.loop-line.line-index in
    let test = c.loop-line-test.true in
    let lt : i < length lines = omega (arith, test, ap length c.as_slice-line-items.ensures) in
    let is : line ≡ get_or lines i line = c.line-item.is ∙ ap (λ l. get_or l i line) c.as_slice-line-items.ensures in
    let same : line.lane ≡ old.seat.pen.lane = c.if-line-lane.true ∙ c.lane.ensures.lane ∙ c.loop-line.invariant.stays.1.2 in
    let few = line_few d old.seat.pen.lane i lines line c.args.frames.now c.loop-line.left.now old c.loop-line.self lt is same c.requires.ready.trail c.loop-line.invariant in
    let most = c.requires.lines.few in
    omega (arith, few, most, ap (λ l. length (asked_at line l)) c.split_records.ensures.records)

pub returns-in_err-answer_line-clause-comes : goal.returns-in_err-answer_line-clause-comes
returns-in_err-answer_line-clause-comes g c =
    let d = data_of c.args.hub.now.setup in
    let old = c.args.self.now in
    let now = c.loop-line.self in
    let new = c.answer_line.new.self in
    let lines = c.args.segment.now.lines in
    let line = c.line-item.result in
    let i = c.loop-line.line-index in
    let k = old.seat.pen.lane in
    let own = asked_of_lane k (asked_in lines c.args.frames.now) in
    let test = c.loop-line-test.true in
    let lt : i < length lines = omega (arith, test, ap length c.as_slice-line-items.ensures) in
    let is : line ≡ get_or lines i line = c.line-item.is ∙ ap (λ l. get_or l i line) c.as_slice-line-items.ensures in
    let same : line.lane ≡ k = c.if-line-lane.true ∙ c.lane.ensures.lane ∙ c.loop-line.invariant.stays.1.2 in
    let f = c.in_err-answer_line.field-0.0 in
    let passed = err_is c.from_residual.result f c.from_residual.ensures.1 in
    let comes = subst (λ l. Comes d (asked_at line l) now (Err f) new) c.split_records.ensures.records c.in_err-answer_line.ensures.comes in
    subst (λ r. Comes d own old r new) (sym passed) (ends d k i lines line c.loop-line.left.now own old now new f lt is same c.loop-line.invariant comes)

pub loop-line-preserved : goal.loop-line-preserved
loop-line-preserved g c =
    let d = data_of c.args.hub.now.setup in
    let old = c.args.self.now in
    let now = c.loop-line.self in
    let lines = c.args.segment.now.lines in
    let line = c.line-item.result in
    let i = c.loop-line.line-index in
    let k = old.seat.pen.lane in
    let own = asked_of_lane k (asked_in lines c.args.frames.now) in
    let test = c.loop-line-test.true in
    let lt : i < length lines = omega (arith, test, ap length c.as_slice-line-items.ensures) in
    let is : line ≡ get_or lines i line = c.line-item.is ∙ ap (λ l. get_or l i line) c.as_slice-line-items.ensures in
    let its : c.lane.result ≡ k = c.lane.ensures.lane ∙ c.loop-line.invariant.stays.1.2 in
    let records = c.split_records.ensures.records in
    subst (λ l. Progress d own (rest_at k (i + 1) lines l) old c.if-line-lane.self) (sym c.split_records.ensures.others)
    (elim c.if-line-lane.branch [
      | then-line-lane+in_ok-answer_line w ↦
          let answers = subst (λ l. Answers d (asked_at line l) now w.answer_line.new.self) records w.in_ok-answer_line.ensures.comes in
          subst (Progress d own _ old) (sym w.self-is)
          (goes_on d k i lines line c.loop-line.left.now own old now w.answer_line.new.self lt is (w.if-line-lane.true ∙ its) c.loop-line.invariant answers w.answer_line.ensures.stays)
      | else-line-lane w ↦
          subst (Progress d own _ old) (sym w.self-is) (skips d k i lines line c.loop-line.left.now own old now lt is (λ same. w.if-line-lane.false (same ∙ sym its)) c.loop-line.invariant)
    ])
