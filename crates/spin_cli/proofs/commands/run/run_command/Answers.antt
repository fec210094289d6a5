use Rattle.std.proofs.Common.{◌∙◌, refl, ap}
use Rattle.spin_script.specs.Scripts.{script_seen}
use Rattle.spin_inputs.specs.Ends.{exit_status}
use Rattle.spin_cli.specs.Run.{end_of}
use Rattle.spin_cli.proofs.RunCauses.{not_loaded, not_opened, was_run}
use Rattle.spin_cli.proofs.commands.run.run_command.Goals as goal

pub returns-in-Err : goal.returns-in-Err
returns-in-Err g c =
    (c.in-Err.end, c.stop.ensures.status, not_loaded _ _ _ _ _ c.in-Err.end c.in-Err.ensures.refused (record { ends = refl; tells = c.stop.ensures.line }))

pub returns-in-Err-capture_of : goal.returns-in-Err-capture_of
returns-in-Err-capture_of g c = (
  c.in-Err-capture_of.end,
  c.stop-in-Err-capture_of.ensures.status,
  not_opened _ _ _ _ _ _ (script_seen c.in-Ok.script) c.in-Err-capture_of.end
      c.in-Ok.ensures.stood c.in-Ok.ensures.loaded c.in-Err-capture_of.ensures.refused (record { ends = refl; tells = c.stop-in-Err-capture_of.ensures.line }),
)

pub returns : goal.returns
returns g c =
    let line = rw c.end_of.ensures at c.stop-2.ensures.line in (
      end_of c.run_over-ended.result,
      c.stop-2.ensures.status ∙ ap exit_status c.end_of.ensures,
      was_run _ _ _ _ _ _ _ _ _ _ _ c.run_over-ended.result c.in-Ok.ensures.stood c.in-Ok.ensures.loaded c.in-Ok-capture_of.ensures.opened c.in-Ok.ensures.reads c.run_over-ended.ensures line,
    )
