use Rattle.std.proofs.Common.{◌≤◌, drop}
use Rattle.spin_table.specs.SetupOf.{data_of}
use Rattle.spin_table.specs.Soundness.{IsSoundVersion}
use Rattle.spin_table.specs.States.{State, start_of}
use Rattle.spin_vm.specs.Scripts.{AllLead}
use Rattle.spin_vm.proofs.version.after_lines.Given as goal

-- what the lines that are left lead to is what all lead to
abbrev pub invariant-loop-line : goal.invariant-loop-line
invariant-loop-line g l = record {
  rest : (last : State) → AllLead (data_of l.setup) l.version.state (drop l.line-index l.lines) last → AllLead (data_of l.setup) (start_of (data_of l.setup)) l.lines last;
  sound : IsSoundVersion (data_of l.setup) l.version;
  place : l.version.state.place ≤ l.line-index;
}
