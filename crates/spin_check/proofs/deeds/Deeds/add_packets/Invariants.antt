use Rattle.std.proofs.Common.{◌≡◌, take}
use Rattle.spin_check.specs.Inner.Asks.{Adds, packets_at}
use Rattle.spin_check.proofs.deeds.Deeds.add_packets.Given as goal

abbrev pub invariant-loop-frame : goal.invariant-loop-frame
invariant-loop-frame l = Adds (packets_at l.line l.event 1 (take l.frame-index l.records)) l.fn.self l.self × (l.part ≡ l.frame-index)
