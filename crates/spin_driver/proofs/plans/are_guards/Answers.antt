use Rattle.std.proofs.Common.{refl, sym}
use Rattle.std.proofs.lemmas.List.{take_all}
use Rattle.std.proofs.lemmas.List.Elements.{All-more, All-same}
use Rattle.spin_plan.specs.Next.{IsGuard}
use Rattle.spin_driver.proofs.plans.are_guards.Goals as goal

pub loop-guard-preserved : goal.loop-guard-preserved
loop-guard-preserved c =
    All-more (IsGuard c.args.count) c.args.guards.now c.loop-guard.guard-index 0 c.loop-guard-test.true c.loop-guard.invariant (c.if-not-is_guard.ensures refl)

pub returns : goal.returns
returns c = λ t.
    All-same (IsGuard c.args.count) c.args.guards.now _ (sym (take_all c.loop-guard.guard-index c.args.guards.now c.loop-guard-test.false)) c.loop-guard.invariant
