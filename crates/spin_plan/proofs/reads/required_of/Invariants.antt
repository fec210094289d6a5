use Rattle.std.proofs.Common.{◌≡◌, take, ◌∷◌, None}
use Rattle.spin_plan.specs.Keys.{first_required}
use Rattle.spin_plan.proofs.reads.required_of.Given as goal

abbrev pub invariant-loop-guard : goal.invariant-loop-guard
invariant-loop-guard g l = first_required (g.C.Guards.tests l.guards) l.e (l.binding.own_guard ∷ take l.guard-index l.binding.imposed) ≡ None
