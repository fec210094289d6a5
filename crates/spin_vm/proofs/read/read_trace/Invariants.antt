use Rattle.std.proofs.Common.{◌≡◌, ◌+◌, ◌≤◌, length, Ok}
use Rattle.std.specs.Str.Lines.{lines}
use Rattle.spin_vm.specs.Traces.{start, comes_to}
use Rattle.spin_vm.proofs.TraceLines.{GoesOn}
use Rattle.spin_vm.proofs.read.read_trace.Given as goal

-- what the lines that are left come to behind the trace so far is what the text comes to
abbrev pub invariant-loop-line : goal.invariant-loop-line
invariant-loop-line l = record {
  small : length l.text ≤ 1048576;
  room : l.number + length l.lines ≤ 1048577;
  comes : comes_to (Ok l.draft) l.number l.lines ≡ comes_to (Ok start) 0 (lines l.text);
  good : GoesOn l.draft;
}

abbrev pub decreases-loop-line : goal.decreases-loop-line
decreases-loop-line l = length l.lines
