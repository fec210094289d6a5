use Rattle.std.proofs.Common.{◌≡◌, take}
use Rattle.spin_run.proofs.copying.copied_steps.Given as goal

abbrev pub invariant-loop-step : goal.invariant-loop-step
invariant-loop-step l = l.trace ≡ take l.step-index l.steps
