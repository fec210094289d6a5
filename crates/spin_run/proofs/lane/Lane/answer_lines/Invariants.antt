use Rattle.spin_table.specs.SetupOf.{data_of}
use Rattle.spin_report.specs.Segments.{asked_in, asked_of_lane}
use Rattle.spin_run.proofs.LaneProgress.{Progress, rest_at}
use Rattle.spin_run.proofs.lane.Lane.answer_lines.Given as goal

abbrev pub invariant-loop-line : goal.invariant-loop-line
invariant-loop-line g l =
    let k = l.fn.self.seat.pen.lane in
    Progress (data_of l.hub.setup) (asked_of_lane k (asked_in l.segment.lines l.frames)) (rest_at k l.line-index l.segment.lines l.left) l.fn.self l.self
