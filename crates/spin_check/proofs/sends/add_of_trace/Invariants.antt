use Rattle.std.proofs.Common.{◌≡◌, ◌++◌, take}
use Rattle.std.specs.List.{filter_map}
use Rattle.spin_report.specs.Runs.{sent_by}
use Rattle.spin_check.specs.Inner.Standings.{numbers_of}
use Rattle.spin_check.proofs.sends.add_of_trace.Given as goal

abbrev pub invariant-loop-step : goal.invariant-loop-step
invariant-loop-step l = l.sends ≡ l.fn.sends ++ numbers_of (filter_map sent_by (take l.step-index l.trace))
