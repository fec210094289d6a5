use Rattle.std.proofs.Common.{◌∙◌, refl, ap}
use Rattle.spin_script.specs.Scripts.{script_seen}
use Rattle.spin_inputs.specs.Ends.{exit_status}
use Rattle.spin_cli.specs.Run.{end_of}
use Rattle.spin_cli.proofs.JoinCauses.{not_behind, not_joined, not_loaded, was_joined}
use Rattle.spin_cli.proofs.commands.join.join_command.Goals as goal

pub returns-in-Err : goal.returns-in-Err
returns-in-Err g c =
    (c.in-Err.end, c.stop.ensures.status, not_loaded _ _ _ _ _ c.in-Err.end c.in-Err.ensures.refused (record { ends = refl; tells = c.stop.ensures.line }))

pub returns-in-Err-joined_of : goal.returns-in-Err-joined_of
returns-in-Err-joined_of g c = (
  c.in-Err-joined_of.end,
  c.stop-in-Err-joined_of.ensures.status,
  not_joined _ _ _ _ _ _ (script_seen c.in-Ok.script) c.in-Err-joined_of.end
      c.in-Ok.ensures.stood c.in-Ok.ensures.loaded c.in-Err-joined_of.ensures.refused (record { ends = refl; tells = c.stop-in-Err-joined_of.ensures.line }),
)

pub returns-in-Err-behind_header : goal.returns-in-Err-behind_header
returns-in-Err-behind_header g c = (
  c.in-Err-behind_header.end,
  c.stop-in-Err-behind_header.ensures.status,
  not_behind _ _ _ _ _ _ _ (script_seen c.in-Ok.script) c.in-Err-behind_header.end c.in-Ok.ensures.stood c.in-Ok.ensures.loaded c.in-Ok-joined_of.ensures.joined
      c.in-Ok-joined_of.ensures.good c.in-Err-behind_header.ensures.refused (record { ends = refl; tells = c.stop-in-Err-behind_header.ensures.line }),
)

pub returns : goal.returns
returns g c =
    let line = rw c.end_of.ensures at c.stop-2.ensures.line in (
      end_of c.run_over-ended.result,
      c.stop-2.ensures.status ∙ ap exit_status c.end_of.ensures,
      was_joined _ _ _ _ _ _ _ _ _ _ _ c.run_over-ended.result c.in-Ok.ensures.stood
          c.in-Ok.ensures.loaded c.in-Ok-joined_of.ensures.joined c.in-Ok-joined_of.ensures.good c.in-Ok-behind_header.ensures.behind c.run_over-ended.ensures line,
    )
