use Rattle.std.proofs.Common.{◌≡◌, ◌++◌, take, map}
use Rattle.spin_grammar.specs.Forms.{value_atom}
use Rattle.spin_script.specs.Canonical.{spoken}
use Rattle.spin_script.proofs.write.deeds.put_values.Given as goal

abbrev pub invariant-loop-value : goal.invariant-loop-value
invariant-loop-value l = l.out ≡ l.fn.out ++ spoken (map value_atom (take l.value-index l.values))
