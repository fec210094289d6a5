use Rattle.std.proofs.Common.{rules, ◌≡◌, false, true}
use Rattle.spin_script.specs.Scripts.{script_seen}
use Rattle.spin_vm.specs.Scripts.{is_suited}
use Rattle.spin_commands.proofs.VmCauses.{of_any, suited_here, unsuited_here}
use Rattle.spin_commands.proofs.vm.suited_trace.Goals as goal

pub returns-then-not-is_suited-clause-refused : goal.returns-then-not-is_suited-clause-refused
returns-then-not-is_suited-clause-refused g c =
    let unsuited : is_suited (script_seen c.args.script.now) ≡ false = search rules in
    unsuited_here _ _ _ unsuited

pub returns : goal.returns
returns g c =
    let suited : is_suited (script_seen c.args.script.now) ≡ true = search rules in
    record {
      suited = of_any _ c.trace_of.result suited;
      stood = c.trace_of.ensures.stood;
      read = c.trace_of.ensures.read;
      refused = suited_here c.trace_of.result _ _ _ _ suited c.trace_of.ensures.refused;
    }
