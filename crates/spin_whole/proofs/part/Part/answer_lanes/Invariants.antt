use Rattle.spin_table.specs.SetupOf.{data_of}
use Rattle.std.specs.Arc.{arc_value}
use Rattle.spin_table.specs.Soundness.{IsSoundVersion}
use Rattle.spin_report.specs.Segments.{asked_in}
use Rattle.spin_whole.specs.Inner.Parts.{Answers, by_lane}
use Rattle.spin_whole.proofs.part.Part.answer_lanes.Given as goal

abbrev pub invariant-loop-lane : goal.invariant-loop-lane
invariant-loop-lane g l = Answers (data_of l.setup) (by_lane l.lane (asked_in l.lines l.records)) l.fn.self l.self × IsSoundVersion (data_of l.setup) (arc_value l.self.version)
