use Rattle.std.proofs.Common.{◌≡◌, List}
use Rattle.spin_policy.specs.declared.rule.Rule.{Rule}
use Rattle.spin_objects.specs.Units.{Named, known_authoriser}
use Rattle.spin_objects.proofs.MappedLists.{read_mapped, read_all, place_mapped_twice}
use Rattle.spin_objects.proofs.natives.Natives.judge.Goals as goal

pub get-requires : goal.get-requires
get-requires g c = place_mapped_twice known_authoriser (λ (n : Named (List Rule)). n.unit) c.args.self.now.authorisers c.args.native c.requires.there

pub judge-requires : goal.judge-requires
judge-requires g c =
    read_all (λ n. (goal.Authoriser-dyn g (n.object.vtable, n.object.value)).follows n.object.value ≡ n.policy)
    c.args.self.now.authorisers c.args.native c.get.result.now c.requires.sincere.authorisers c.get.ensures

pub returns : goal.returns
returns g c =
    rw (read_mapped known_authoriser (λ (n : Named (List Rule)). n.unit) c.args.self.now.authorisers c.args.native c.get.result.now c.get.ensures) c.judge.ensures
