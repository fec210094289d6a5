use Rattle.std.proofs.Common.{◌≡◌, map, take}
use Rattle.spin_c.specs.Given.{value_of}
use Rattle.spin_c.proofs.given.values_in.Given as goal

abbrev pub invariant-loop-arg : goal.invariant-loop-arg
invariant-loop-arg l = l.args ≡ map (value_of l.bytes) (take l.arg-index l.given)
