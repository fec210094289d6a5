use Rattle.std.proofs.Common.{vec_len}
use Rattle.spin_place.proofs.BindingPlacing.{IsKept, IsPlacing}
use Rattle.spin_place.proofs.run_order.order.Given as goal

abbrev pub invariant-loop-rest : goal.invariant-loop-rest
invariant-loop-rest l = record {
  kept : IsKept l.links.items l.rest.items l.firsts l.inner;
  placing : IsPlacing l.bindings l.rest.items l.placed;
}

abbrev pub decreases-loop-rest : goal.decreases-loop-rest
decreases-loop-rest l = vec_len l.rest
