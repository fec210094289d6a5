use Rattle.std.proofs.Common.{◌<◌, List, length, subst}
use Rattle.spin_policy.specs.declared.rule.Rule.{Rule}
use Rattle.spin_objects.specs.Units.{names_of, Named, HandlerUnit, GuardUnit, known_handler, known_guard, known_authoriser}
use Rattle.spin_objects.proofs.MappedLists.{read_mapped, place_mapped_twice}
use Rattle.spin_objects.proofs.natives.Natives.name_of.Goals as goal

pub get-requires : goal.get-requires
get-requires g c =
    place_mapped_twice known_handler (λ (n : Named HandlerUnit). n.name) c.args.self.now.handlers c.args.native
    (subst (λ kind. c.args.native < length (names_of kind c.args.self.now)) c.in-Handler.is c.requires)

pub returns-in-Handler : goal.returns-in-Handler
returns-in-Handler g c =
    rw c.in-Handler.is (read_mapped known_handler (λ (n : Named HandlerUnit). n.name) c.args.self.now.handlers c.args.native c.get.result.now c.get.ensures)

pub get-requires-in-Guard : goal.get-requires-in-Guard
get-requires-in-Guard g c =
    place_mapped_twice known_guard (λ (n : Named GuardUnit). n.name) c.args.self.now.guards c.args.native
    (subst (λ kind. c.args.native < length (names_of kind c.args.self.now)) c.in-Guard.is c.requires)

pub returns-in-Guard : goal.returns-in-Guard
returns-in-Guard g c =
    rw c.in-Guard.is (read_mapped known_guard (λ (n : Named GuardUnit). n.name) c.args.self.now.guards c.args.native c.get-in-Guard.result.now c.get-in-Guard.ensures)

pub get-requires-in-Authoriser : goal.get-requires-in-Authoriser
get-requires-in-Authoriser g c =
    place_mapped_twice known_authoriser (λ (n : Named (List Rule)). n.name) c.args.self.now.authorisers c.args.native
    (subst (λ kind. c.args.native < length (names_of kind c.args.self.now)) c.in-Authoriser.is c.requires)

pub returns-in-Authoriser : goal.returns-in-Authoriser
returns-in-Authoriser g c =
    rw c.in-Authoriser.is (read_mapped known_authoriser (λ (n : Named (List Rule)). n.name) c.args.self.now.authorisers c.args.native c.get-in-Authoriser.result.now c.get-in-Authoriser.ensures)
