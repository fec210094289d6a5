use Rattle.std.proofs.Common.{◌≡◌, ◌≤◌, ◌+◌, length}
use Rattle.spin_pcap.specs.Passing.{Passes}
use Rattle.spin_pcap.proofs.reader.copy_body.Given as goal

abbrev pub invariant-loop-rest : goal.invariant-loop-rest
invariant-loop-rest g l = record {
  passed : Passes l.frame l.fn.window (g.S.Source.seen l.fn.source) l.window (g.S.Source.seen l.source);
  count : length l.frame + l.rest ≡ l.fn.count;
  bound : length l.fn.window ≤ 65536 → length l.window ≤ 65536;
  stood : (g.S.Source.seen l.source).faults ≡ (g.S.Source.seen l.fn.source).faults;
}

abbrev pub decreases-loop-rest : goal.decreases-loop-rest
decreases-loop-rest g l = l.rest
