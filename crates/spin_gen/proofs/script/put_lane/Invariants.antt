use Rattle.spin_gen.specs.Drafts.{lane_drafts}
use Rattle.spin_gen.specs.Inner.Writing.{Writes}
use Rattle.spin_gen.proofs.script.put_lane.Given as goal

abbrev pub invariant-loop-number : goal.invariant-loop-number
invariant-loop-number l = Writes l.fn.out l.fn.draws (lane_drafts l.number l.lane) l.out l.draws
