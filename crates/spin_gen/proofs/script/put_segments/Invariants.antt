use Rattle.spin_gen.specs.Drafts.{segments_drafts}
use Rattle.spin_gen.specs.Inner.Writing.{Writes}
use Rattle.spin_gen.proofs.script.put_segments.Given as goal

abbrev pub invariant-loop : goal.invariant-loop
invariant-loop l = Writes l.fn.out l.fn.draws (segments_drafts l.counter) l.out l.draws
