use Rattle.std.proofs.Common.{length, refl}
use Rattle.std.proofs.lemmas.List.{length-map}
use Rattle.spin_objects.specs.Units.{native_of_body, known_handler}
use Rattle.spin_objects.proofs.NumberedItems.{numbered-map}
use Rattle.spin_objects.proofs.NativeLemmas.{native_body_there}
use Rattle.spin_objects.proofs.catalogue.Catalogue.native_handler.Goals as goal

pub returns-clause-native : goal.returns-clause-native
returns-clause-native g c =
    rw (c.native.ensures, numbered-map native_of_body c.args.self.now.bodies c.args.handler, c.body.ensures.body) refl

pub returns-clause-there : goal.returns-clause-there
returns-clause-there g c =
    let natives = c.args.self.now.natives.handlers in
    rw (c.native.ensures, length-map natives known_handler) (native_body_there (length natives) c.body.result.now c.body.ensures.there)
