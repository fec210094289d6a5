use Rattle.std.proofs.Common.{◌≡◌, ◌+◌}
use Rattle.std.specs.Option.{option_map}
use Rattle.spin_plan.specs.Planned.{expr_of}
use Rattle.spin_plan.proofs.IndexLemmas.{Filed}
use Rattle.spin_plan.proofs.plan.Plan.compile.Given as goal

abbrev pub invariant-loop-binding : goal.invariant-loop-binding
invariant-loop-binding g l =
    Filed (g.C.Guards.tests l.guards) l.ordered l.binding-index l.bindings (option_map expr_of l.key) l.keyed.entries l.free
    × (l.steps ≡ l.initial.steps + l.binding-index)
