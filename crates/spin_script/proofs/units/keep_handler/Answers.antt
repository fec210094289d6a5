use Rattle.std.proofs.Common.{ap}
use Rattle.spin_objects.specs.Units.{native_handlers, native_guards}
use Rattle.spin_script.proofs.CatalogueBodies.{body_added, same_checks}
use Rattle.spin_script.proofs.units.keep_handler.Goals as goal

pub returns-in-Ok-clause-bodies : goal.returns-in-Ok-clause-bodies
returns-in-Ok-clause-bodies g c =
    let old = c.args.catalogue.now in
    let new = c.add_handler.new.self in
    body_added (native_handlers new.natives) (native_handlers old.natives) old.bodies new.bodies c.args.body
    (ap native_handlers c.in-Ok.ensures.natives) c.in-Ok.ensures.added c.in-Ok.ensures.as_native

pub returns-in-Ok-clause-checks : goal.returns-in-Ok-clause-checks
returns-in-Ok-clause-checks g c =
    let old = c.args.catalogue.now in
    let new = c.add_handler.new.self in
    same_checks (native_guards new.natives) (native_guards old.natives) old.checks new.checks (ap native_guards c.in-Ok.ensures.natives) c.in-Ok.ensures.guards c.in-Ok.ensures.guard_natives
