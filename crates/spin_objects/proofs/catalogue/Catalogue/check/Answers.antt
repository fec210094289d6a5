use Rattle.std.proofs.Common.{length, ◌-◌, ◌∙◌, arith}
use Rattle.spin_objects.specs.There.{IsCheckThere}
use Rattle.spin_objects.specs.Units.{unit_of_check, native_guards}
use Rattle.spin_objects.proofs.NumberedItems.{numbered-at}
use Rattle.spin_objects.proofs.MappedLists.{read_all, place_there}
use Rattle.spin_objects.proofs.catalogue.Catalogue.check.Goals as goal

pub get-requires : goal.get-requires
get-requires g c =
    let catalogue = c.args.self.now in
    place_there (unit_of_check (native_guards catalogue.natives)) catalogue.checks c.args.guard c.requires.first c.requires.last

pub returns-clause-check : goal.returns-clause-check
returns-clause-check g c =
    numbered-at c.args.self.now.checks c.args.guard (λ none. omega (arith, none, c.requires.first)) ∙ c.get.ensures

pub returns-clause-there : goal.returns-clause-there
returns-clause-there g c =
    let catalogue = c.args.self.now in
    read_all (IsCheckThere (length catalogue.natives.guards)) catalogue.checks (c.args.guard - 1) c.get.result.now catalogue.checks_there c.get.ensures
