use Rattle.std.proofs.Common.{refl}
use Rattle.spin_script.specs.Scripts.{script_seen}
use Rattle.spin_c.proofs.turn.open.Goals as goal

pub returns-in-Ok-start-clause-opens : goal.returns-in-Ok-start-clause-opens
returns-in-Ok-start-clause-opens g c = record {
  script = script_seen c.in-Ok.script;
  read = c.in-Ok.ensures.script;
  setup = rw c.in-Ok-start.ensures.setup refl;
  lanes_are = c.in-Ok-start.ensures.lanes;
  started = c.in-Ok-start.ensures.started;
}

pub returns-in-Ok-start-clause-sincere : goal.returns-in-Ok-start-clause-sincere
returns-in-Ok-start-clause-sincere g c = rw c.in-Ok-start.ensures.setup c.in-Ok.ensures.sincere
