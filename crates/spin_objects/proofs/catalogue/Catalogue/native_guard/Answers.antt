use Rattle.std.proofs.Common.{length, refl}
use Rattle.std.proofs.lemmas.List.{length-map}
use Rattle.spin_objects.specs.Units.{native_of_check, known_guard}
use Rattle.spin_objects.proofs.NumberedItems.{numbered-map}
use Rattle.spin_objects.proofs.NativeLemmas.{native_check_there}
use Rattle.spin_objects.proofs.catalogue.Catalogue.native_guard.Goals as goal

pub returns-clause-native : goal.returns-clause-native
returns-clause-native g c =
    rw (c.native.ensures, numbered-map native_of_check c.args.self.now.checks c.args.guard, c.check.ensures.check) refl

pub returns-clause-there : goal.returns-clause-there
returns-clause-there g c =
    let natives = c.args.self.now.natives.guards in
    rw (c.native.ensures, length-map natives known_guard) (native_check_there (length natives) c.check.result.now c.check.ensures.there)
