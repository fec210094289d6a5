use Rattle.std.proofs.Common.{length, ◌-◌, ◌∙◌, arith}
use Rattle.spin_objects.specs.There.{IsBodyThere}
use Rattle.spin_objects.specs.Units.{unit_of_body, native_handlers}
use Rattle.spin_objects.proofs.NumberedItems.{numbered-at}
use Rattle.spin_objects.proofs.MappedLists.{read_all, place_there}
use Rattle.spin_objects.proofs.catalogue.Catalogue.body.Goals as goal

pub get-requires : goal.get-requires
get-requires g c =
    let catalogue = c.args.self.now in
    place_there (unit_of_body (native_handlers catalogue.natives)) catalogue.bodies c.args.handler c.requires.first c.requires.last

pub returns-clause-body : goal.returns-clause-body
returns-clause-body g c =
    numbered-at c.args.self.now.bodies c.args.handler (λ none. omega (arith, none, c.requires.first)) ∙ c.get.ensures

pub returns-clause-there : goal.returns-clause-there
returns-clause-there g c =
    let catalogue = c.args.self.now in
    read_all (IsBodyThere (length catalogue.natives.handlers)) catalogue.bodies (c.args.handler - 1) c.get.result.now catalogue.bodies_there c.get.ensures
