use Rattle.spin_vm.proofs.SpaceIsolation as proved
use Rattle.spin_vm.proofs.laws.spaces_are_isolated.Goals as goal

pub returns : goal.returns
returns c = proved.spaces_are_isolated
