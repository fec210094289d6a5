use Rattle.std.proofs.Common.{◌≡◌, take, ◌∷◌, [], fold}
use Rattle.std.specs.List.{flat_map}
use Rattle.spin_plan.specs.Inner.Reads.{guard_reads, with_read}
use Rattle.spin_plan.proofs.reads.reads_of.Given as goal

abbrev pub invariant-loop-guard : goal.invariant-loop-guard
invariant-loop-guard g l = l.reads ≡ fold with_read [] (flat_map (guard_reads (g.C.Guards.tests l.guards)) (l.binding.own_guard ∷ take l.guard-index l.binding.imposed))
