use Rattle.spin_objects.specs.Units.{handlers_of}
use Rattle.spin_table.proofs.NumberedUnits.{numbered_handler}
use Rattle.spin_table.proofs.units.find_handler.Goals as goal

pub returns : goal.returns
returns g c =
    let units = handlers_of c.args.catalogue.now in
    let number = c.args.number in
    numbered_handler units number _ _ c.type_of.ensures c.act_of.ensures
