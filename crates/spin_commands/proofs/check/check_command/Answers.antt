use Rattle.std.proofs.Common.{refl}
use Rattle.spin_commands.proofs.CheckCauses.{not_loaded}
use Rattle.spin_commands.proofs.check.check_command.Goals as goal

pub returns-in-Ok : goal.returns-in-Ok
returns-in-Ok g c = c.check_script.ensures _ _ _ c.in-Ok.ensures.stood c.in-Ok.ensures.loaded

pub returns-in-Err : goal.returns-in-Err
returns-in-Err g c =
    (c.in-Err.end, c.stop.ensures.status, not_loaded _ _ _ _ _ _ c.in-Err.end c.in-Err.ensures.refused (record { ends = refl; tells = c.stop.ensures.line }))
