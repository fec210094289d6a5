use Rattle.spin_objects.specs.Units.{handlers_of}
use Rattle.spin_script.proofs.LastHandler.{last_is}
use Rattle.spin_script.proofs.units.last_act.Goals as goal

pub returns : goal.returns
returns g c = λ units unit is. last_is (handlers_of c.args.catalogue.now) units unit c.args.handler c.act_of.result.now is c.requires.last c.act_of.ensures
