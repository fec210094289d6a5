use Rattle.std.proofs.Common.{◌≡◌, ◌-◌, [], length}
use Rattle.spin_pcap.specs.Passing.{Passes}
use Rattle.spin_pcap.specs.Windows.{Grows}
use Rattle.spin_pcap.proofs.window.Window.need.Given as goal

abbrev pub invariant-loop-self : goal.invariant-loop-self
invariant-loop-self g l = record {
  passed : Passes [] l.fn.self (g.S.Source.seen l.fn.source) l.self (g.S.Source.seen l.source);
  grown : Grows l.fn.self l.self;
  stood : (g.S.Source.seen l.source).faults ≡ (g.S.Source.seen l.fn.source).faults;
}

abbrev pub decreases-loop-self : goal.decreases-loop-self
decreases-loop-self g l = l.wanted - length l.self
