use Rattle.std.proofs.Common.{◌≡◌, ◌++◌, take, map}
use Rattle.std.specs.List.{enumerate_from}
use Rattle.spin_script.specs.Canonical.{text_of_lines, endpoint_line}
use Rattle.spin_script.proofs.write.declared.put_endpoints.Given as goal

abbrev pub invariant-loop-endpoint : goal.invariant-loop-endpoint
invariant-loop-endpoint l = l.out ≡ l.fn.out ++ text_of_lines (map endpoint_line (enumerate_from 0 (take l.endpoint l.endpoints)))
