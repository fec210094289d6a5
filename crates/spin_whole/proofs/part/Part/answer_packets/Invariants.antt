use Rattle.std.proofs.Common.{◌≡◌, take}
use Rattle.std.specs.Arc.{arc_value}
use Rattle.spin_table.specs.SetupOf.{data_of}
use Rattle.spin_table.specs.Soundness.{IsSoundVersion}
use Rattle.spin_whole.specs.Inner.Parts.{Answers, packets}
use Rattle.spin_whole.proofs.part.Part.answer_packets.Given as goal

abbrev pub invariant-loop-frame : goal.invariant-loop-frame
invariant-loop-frame g l =
    Answers (data_of l.setup) (packets l.line l.event 1 (take l.frame-index l.records)) l.fn.self l.self
    × IsSoundVersion (data_of l.setup) (arc_value l.self.version) × (l.part ≡ l.frame-index)
