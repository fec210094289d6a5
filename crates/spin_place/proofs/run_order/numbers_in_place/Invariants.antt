use Rattle.std.proofs.Common.{◌≡◌, take}
use Rattle.spin_place.specs.Precedence.{numbers_of}
use Rattle.spin_place.proofs.run_order.numbers_in_place.Given as goal

abbrev pub invariant-loop-binding : goal.invariant-loop-binding
invariant-loop-binding l = l.numbers ≡ numbers_of (take l.binding-index l.bindings)
