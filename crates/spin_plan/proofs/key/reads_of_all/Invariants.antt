use Rattle.std.proofs.Common.{◌≡◌, take}
use Rattle.std.specs.List.{flat_map}
use Rattle.spin_plan.specs.Inner.Reads.{binding_reads}
use Rattle.spin_plan.proofs.key.reads_of_all.Given as goal

abbrev pub invariant-loop-binding : goal.invariant-loop-binding
invariant-loop-binding g l = l.reads ≡ flat_map (binding_reads (g.C.Guards.tests l.guards)) (take l.binding-index l.ordered)
