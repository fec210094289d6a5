use Rattle.std.proofs.Common.{◌≡◌, ap, sym, ◌∙◌}
use Rattle.spin_code.specs.Truth.{truth_of}
use Rattle.spin_objects.specs.Units.{GuardUnit, known_guard}
use Rattle.spin_objects.proofs.MappedLists.{place_mapped, read_all}
use Rattle.spin_objects.proofs.NativeLemmas.{guard_known}
use Rattle.spin_objects.proofs.natives.Natives.admits.Goals as goal

pub guard-requires : goal.guard-requires
guard-requires g c = place_mapped known_guard c.args.self.now.guards c.args.native c.requires.there

pub admits-requires : goal.admits-requires
admits-requires g c =
    read_all (λ n. (goal.Guard-dyn g (n.object.vtable, n.object.value)).asks n.object.value ≡ n.test)
    c.args.self.now.guards c.args.native c.guard.result.now c.requires.sincere.guards c.guard.ensures

pub returns : goal.returns
returns g c =
    c.admits.ensures
    ∙ sym (ap (λ (u : GuardUnit). truth_of u.test c.args.args.now) (guard_known c.args.self.now.guards c.args.native c.guard.result.now c.guard.ensures))
