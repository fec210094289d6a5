use Rattle.std.proofs.Common.{◌≡◌, ◌++◌, take}
use Rattle.std.specs.List.{flat_map}
use Rattle.host_logger.specs.Logging as specs
use Rattle.host_logger.proofs.log_trace.Given as goal

-- the lines of the steps so far are appended
abbrev pub invariant-loop-step : goal.invariant-loop-step
invariant-loop-step l = l.lines ≡ l.fn.lines ++ flat_map specs.line_of (take l.step-index l.trace)
