use Rattle.std.proofs.Common.{◌≡◌, take}
use Rattle.std.specs.Io.KnownBytes.{Appends}
use Rattle.spin_run.specs.Inner.Writing.{joined}
use Rattle.spin_run.proofs.writing.write_pieces.Given as goal

abbrev pub invariant-loop-piece : goal.invariant-loop-piece
invariant-loop-piece g l = record {
  written : Appends (g.K.Sink.seen l.fn.out).told (g.K.Sink.seen l.out).told (joined (take l.piece-index l.pieces));
  stood : (g.K.Sink.seen l.out).faults ≡ (g.K.Sink.seen l.fn.out).faults;
}
