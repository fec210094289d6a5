use Rattle.std.proofs.Common.{◌≡◌, ◌++◌, take}
use Rattle.spin_grammar.specs.Canonical.{letters}
use Rattle.spin_script.specs.Canonical.{marked}
use Rattle.spin_script.proofs.write.words.put_letters.Given as goal

abbrev pub invariant-loop-param : goal.invariant-loop-param
invariant-loop-param l = l.out ≡ l.fn.out ++ letters (marked l.marks (take l.param-index l.params))
