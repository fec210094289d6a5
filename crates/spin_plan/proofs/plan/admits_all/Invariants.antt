use Rattle.std.proofs.Common.{◌≡◌, ◌+◌, ◌≤◌, take, true, ◌∷◌}
use Rattle.std.specs.List.{list_all}
use Rattle.spin_plan.specs.Next.{guard_holds}
use Rattle.spin_plan.specs.Keys.{guards_among}
use Rattle.spin_plan.proofs.plan.admits_all.Given as goal

abbrev pub invariant-loop-guard : goal.invariant-loop-guard
invariant-loop-guard g l =
    (list_all (guard_holds (g.C.Guards.tests l.guards) l.args) (l.binding.own_guard ∷ take l.guard-index l.binding.imposed) ≡ true)
    × (l.steps ≤ l.fn.steps + guards_among (l.binding.own_guard ∷ take l.guard-index l.binding.imposed))
