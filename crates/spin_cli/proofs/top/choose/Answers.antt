use Rattle.std.proofs.Common.{refl}
use Rattle.spin_cli.proofs.StatusCauses.{command_status, memory_status, usage_status}
use Rattle.spin_cli.proofs.top.choose.Goals as goal

pub returns-in-Ok-Some : goal.returns-in-Ok-Some
returns-in-Ok-Some g c =
    command_status _ _ (rw c.in-Ok-Some.field-0-is at c.in-Ok-Some.ensures.found) c.do_command.ensures

pub returns-in-Ok-None : goal.returns-in-Ok-None
returns-in-Ok-None g c =
    usage_status _ (rw c.in-Ok-None.field-0-is at c.in-Ok-None.ensures.none) refl (record { ends = refl; tells = c.stop.ensures.line }) c.stop.ensures.status

pub returns-in-Err : goal.returns-in-Err
returns-in-Err g c =
    memory_status _ refl (record { ends = refl; tells = c.stop-in-Err.ensures.line }) c.stop-in-Err.ensures.status
