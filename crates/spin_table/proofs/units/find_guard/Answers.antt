use Rattle.spin_values.specs.First.{numbered}
use Rattle.spin_objects.specs.Units.{guards_of}
use Rattle.spin_table.proofs.NumberedUnits.{sig_from}
use Rattle.spin_table.proofs.units.find_guard.Goals as goal

pub returns : goal.returns
returns g c =
    let units = guards_of c.args.catalogue.now in
    let number = c.args.number in
    sig_from (numbered units number) _ c.guard_type.ensures
