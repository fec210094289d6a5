use Rattle.std.proofs.Common.{◌≡◌, ◌++◌, take, map}
use Rattle.spin_grammar.specs.Lines.{Rules}
use Rattle.spin_script.specs.Canonical.{text_of_lines}
use Rattle.spin_script.proofs.write.rules.put_rules.Given as goal

abbrev pub invariant-loop-rule : goal.invariant-loop-rule
invariant-loop-rule l = l.out ≡ l.fn.out ++ text_of_lines (map (Rules l.event) (take l.rule-index l.rules))
