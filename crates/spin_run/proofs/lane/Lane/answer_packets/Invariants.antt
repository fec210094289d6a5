use Rattle.std.proofs.Common.{◌≡◌, take}
use Rattle.spin_table.specs.SetupOf.{data_of}
use Rattle.spin_run.specs.Inner.Answering.{Answers, Stays, asked_packets}
use Rattle.spin_run.proofs.lane.Lane.answer_packets.Given as goal

abbrev pub invariant-loop-frame : goal.invariant-loop-frame
invariant-loop-frame g l =
    let d = data_of l.by.hub.now.setup in
    Answers d (asked_packets l.fn.self.seat.pen.lane l.line l.event 1 (take l.frame-index l.records)) l.fn.self l.self
    × Stays d l.fn.self l.self × (l.part ≡ l.frame-index)
