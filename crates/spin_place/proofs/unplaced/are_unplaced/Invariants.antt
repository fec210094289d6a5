use Rattle.spin_place.proofs.UnplacedBindings.{AreRising}
use Rattle.spin_place.proofs.unplaced.are_unplaced.Given as goal

abbrev pub invariant-loop-binding : goal.invariant-loop-binding
invariant-loop-binding l = AreRising l.bindings l.binding-index l.least
