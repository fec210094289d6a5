use Rattle.std.proofs.Common.{drop}
use Rattle.spin_table.specs.SetupOf.{data_of}
use Rattle.spin_report.specs.Segments.{asked_in, asked_of_lane}
use Rattle.spin_whole.proofs.AnswerSteps.{IsGone}
use Rattle.spin_whole.proofs.part.Part.answer_lane.Given as goal

abbrev pub invariant-loop-line : goal.invariant-loop-line
invariant-loop-line g l =
    IsGone (data_of l.setup) (asked_of_lane l.lane (asked_in l.lines l.records)) (asked_of_lane l.lane (asked_in (drop l.line-index l.lines) l.left)) l.fn.self l.self
