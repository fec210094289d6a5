use Rattle.std.proofs.Common.{◌≡◌, ◌++◌, drop}
use Rattle.spin_objects.specs.Doing.{args_after, items_of}
use Rattle.spin_objects.proofs.run.run_act.Given as goal

abbrev pub invariant-loop-step : goal.invariant-loop-step
invariant-loop-step l =
    (args_after (drop l.step-index l.act.steps) l.args ≡ args_after l.act.steps l.initial.args)
    × (l.out ++ items_of (drop l.step-index l.act.steps) l.args ≡ l.initial.out ++ items_of l.act.steps l.initial.args)
