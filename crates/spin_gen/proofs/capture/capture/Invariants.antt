use Rattle.std.proofs.Common.{◌≡◌, ◌++◌}
use Rattle.spin_gen.specs.Numbers.{state_after}
use Rattle.spin_gen.specs.Records.{file_header, records}
use Rattle.spin_gen.proofs.capture.capture.Given as goal

abbrev pub invariant-loop-number : goal.invariant-loop-number
invariant-loop-number l = record {
  state : l.draws ≡ state_after l.number l.fn.draws;
  made : l.out ≡ file_header ++ records l.number l.fn.draws;
}
