use Rattle.std.proofs.Common.{◌≡◌, length}
use Rattle.spin_outside.proofs.WriteLoops.{IsPartlyWritten}
use Rattle.spin_outside.proofs.sink.write_all.Given as goal

abbrev pub invariant-loop-rest : goal.invariant-loop-rest
invariant-loop-rest g l = record {
  written : IsPartlyWritten (g.K.Sink.seen l.fn.out).told (g.K.Sink.seen l.out).told l.bytes l.rest;
  stood : (g.K.Sink.seen l.out).faults ≡ (g.K.Sink.seen l.fn.out).faults;
}

abbrev pub decreases-loop-rest : goal.decreases-loop-rest
decreases-loop-rest g l = length l.rest
