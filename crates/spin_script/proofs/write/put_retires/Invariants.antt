use Rattle.std.proofs.Common.{◌≡◌, ◌++◌, take, map}
use Rattle.spin_grammar.specs.Lines.{Retire}
use Rattle.spin_script.specs.Canonical.{text_of_lines}
use Rattle.spin_script.proofs.write.put_retires.Given as goal

abbrev pub invariant-loop-endpoint : goal.invariant-loop-endpoint
invariant-loop-endpoint l = l.out ≡ l.fn.out ++ text_of_lines (map Retire (take l.endpoint-index l.endpoints))
