use Rattle.spin_check.proofs.Queues.{IsGoneOver}
use Rattle.spin_check.proofs.deeds.deeds_of.Given as goal

abbrev pub invariant-loop-line : goal.invariant-loop-line
invariant-loop-line l = IsGoneOver l.lanes l.lines l.records l.line-index l.deeds l.left
