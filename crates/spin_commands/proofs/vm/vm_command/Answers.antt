use Rattle.std.proofs.Common.{◌∙◌, refl, ap}
use Rattle.spin_script.specs.Scripts.{script_seen}
use Rattle.spin_inputs.specs.Ends.{exit_status}
use Rattle.spin_commands.specs.Vm.{vm_end}
use Rattle.spin_commands.proofs.VmCauses.{not_loaded, not_traced, was_traced}
use Rattle.spin_commands.proofs.vm.vm_command.Goals as goal

pub returns-in-Err : goal.returns-in-Err
returns-in-Err g c =
    λ ends. (c.in-Err.end, c.stop.ensures.status, not_loaded _ _ _ _ _ c.in-Err.end c.in-Err.ensures.refused (record { ends = refl; tells = c.stop.ensures.line }))

pub returns-in-Err-suited_trace : goal.returns-in-Err-suited_trace
returns-in-Err-suited_trace g c =
    λ ends. (
      c.in-Err-suited_trace.end,
      c.stop-in-Err-suited_trace.ensures.status,
      not_traced _ _ _ _ _ _ (script_seen c.in-Ok.script) c.in-Err-suited_trace.end
          c.in-Ok.ensures.stood c.in-Ok.ensures.loaded c.in-Err-suited_trace.ensures.refused (record { ends = refl; tells = c.stop-in-Err-suited_trace.ensures.line }),
    )

pub returns : goal.returns
returns g c =
    let read = c.in-Ok-suited_trace.ensures in
    let by = rw c.as_slice.ensures at c.run_trace-ended.ensures.end in
    let line = rw c.end_of.ensures at c.stop-2.ensures.line in
    λ ends. (
      vm_end c.run_trace-ended.result,
      c.stop-2.ensures.status ∙ ap exit_status c.end_of.ensures,
      was_traced _ _ _ _ _ _ _ _ (script_seen c.in-Ok.script)
          c.run_trace-ended.result c.in-Ok.ensures.stood c.in-Ok.ensures.loaded read.suited read.stood read.read by c.run_trace-ended.ensures.counts line refl,
    )
