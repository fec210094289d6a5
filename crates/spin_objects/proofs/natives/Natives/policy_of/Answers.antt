use Rattle.std.proofs.Common.{List}
use Rattle.spin_policy.specs.declared.rule.Rule.{Rule}
use Rattle.spin_objects.specs.Units.{Named, known_authoriser}
use Rattle.spin_objects.proofs.MappedLists.{read_mapped, place_mapped_twice}
use Rattle.spin_objects.proofs.natives.Natives.policy_of.Goals as goal

pub get-requires : goal.get-requires
get-requires g c = place_mapped_twice known_authoriser (λ (n : Named (List Rule)). n.unit) c.args.self.now.authorisers c.args.native c.requires

pub returns : goal.returns
returns g c =
    read_mapped known_authoriser (λ (n : Named (List Rule)). n.unit) c.args.self.now.authorisers c.args.native c.get.result.now c.get.ensures
