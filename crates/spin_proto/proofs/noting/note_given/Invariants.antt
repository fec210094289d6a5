use Rattle.std.proofs.Common.{length, reverse}
use Rattle.spin_proto.proofs.NotedItems.{Noting}
use Rattle.spin_proto.proofs.noting.note_given.Given as goal

abbrev pub invariant-loop-item : goal.invariant-loop-item
invariant-loop-item l = Noting l.event l.fn.given (reverse l.given) l.ups l.last l.initial.walk l.walk

abbrev pub decreases-loop-item : goal.decreases-loop-item
decreases-loop-item l = length l.given
