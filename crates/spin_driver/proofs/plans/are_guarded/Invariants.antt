use Rattle.std.proofs.Common.{take}
use Rattle.std.specs.List.{All}
use Rattle.spin_plan.specs.Next.{IsGuard}
use Rattle.spin_driver.proofs.plans.are_guarded.Given as goal

abbrev pub invariant-loop-binding : goal.invariant-loop-binding
invariant-loop-binding l =
    All (λ b. IsGuard l.count b.own_guard) (take l.binding-index l.bindings)
    × All (λ b. All (IsGuard l.count) b.imposed) (take l.binding-index l.bindings)
