use Rattle.std.proofs.Common.{◌≡◌, ◌+◌, take, sum_by}
use Rattle.spin_code.specs.Size.{step_nodes}
use Rattle.spin_code.proofs.nodes.after_steps.Given as goal

abbrev pub invariant-loop-step : goal.invariant-loop-step
invariant-loop-step l = l.left + sum_by step_nodes (take l.step-index l.steps) ≡ l.room
