use Rattle.std.proofs.Common.{◌≡◌, ◌++◌}
use Rattle.spin_grammar.specs.Lines.{Barrier}
use Rattle.spin_script.specs.Canonical.{line_text}
use Rattle.spin_gen.specs.Inner.Writing.{packets_text}
use Rattle.spin_gen.proofs.script.put_last.Given as goal

abbrev pub invariant-loop-lane : goal.invariant-loop-lane
invariant-loop-lane l = l.out ≡ l.fn.out ++ line_text Barrier ++ packets_text l.lane
