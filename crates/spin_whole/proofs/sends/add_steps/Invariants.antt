use Rattle.std.proofs.Common.{◌≡◌, ◌++◌, take}
use Rattle.std.specs.List.{filter_map}
use Rattle.spin_report.specs.Runs.{sent_by}
use Rattle.spin_whole.proofs.sends.add_steps.Given as goal

abbrev pub invariant-loop-step : goal.invariant-loop-step
invariant-loop-step l = l.sends ≡ l.fn.sends ++ filter_map sent_by (take l.step-index l.steps)
