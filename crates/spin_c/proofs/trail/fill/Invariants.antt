use Rattle.std.proofs.Common.{◌≡◌, drop, map, take}
use Rattle.spin_c.specs.Trails.{step_told}
use Rattle.spin_c.proofs.trail.fill.Given as goal

abbrev pub invariant-loop-at : goal.invariant-loop-at
invariant-loop-at l = (take l.at l.steps ≡ take l.at (map step_told l.found)) × (drop l.at l.steps ≡ drop l.at l.fn.steps)
