use Rattle.std.proofs.Common.{take}
use Rattle.std.specs.List.{All}
use Rattle.spin_plan.specs.Next.{IsGuard}
use Rattle.spin_driver.proofs.plans.are_guards.Given as goal

abbrev pub invariant-loop-guard : goal.invariant-loop-guard
invariant-loop-guard l = All (IsGuard l.count) (take l.guard-index l.guards)
