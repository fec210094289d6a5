use Rattle.std.proofs.Common.{◌≡◌, ◌++◌, take, map}
use Rattle.std.specs.List.{enumerate_from}
use Rattle.spin_script.specs.States.{natives_seen}
use Rattle.spin_script.specs.Canonical.{text_of_lines, guard_line}
use Rattle.spin_script.proofs.write.declared.put_guards.Given as goal

abbrev pub invariant-loop-at : goal.invariant-loop-at
invariant-loop-at g l = l.out ≡ l.fn.out ++ text_of_lines (map (λ p. guard_line (natives_seen l.catalogue.natives) p.0 p.1) (enumerate_from 1 (take l.at l.catalogue.checks)))
