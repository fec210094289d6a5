use Rattle.std.proofs.Common.{◌∷◌}
use Rattle.spin_grammar.specs.Lines.{Barrier}
use Rattle.spin_gen.specs.Drafts.{Stated, segment_drafts}
use Rattle.spin_gen.specs.Inner.Writing.{Writes}
use Rattle.spin_gen.proofs.script.put_segment.Given as goal

abbrev pub invariant-loop-lane : goal.invariant-loop-lane
invariant-loop-lane l = Writes l.fn.out l.fn.draws (Stated Barrier ∷ segment_drafts l.lane) l.out l.draws
