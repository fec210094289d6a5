use Rattle.std.proofs.Common.{◌≡◌, All, take}
use Rattle.spin_place.specs.Inner.Candidates.{bindings_of}
use Rattle.spin_place.proofs.candidate.by_number.Given as goal

abbrev pub invariant-loop-binding : goal.invariant-loop-binding
invariant-loop-binding l = record {
  bindings : bindings_of l.rest.items ≡ take l.binding-index l.bindings;
  free : All (λ c. c.waits ≡ 0) l.rest.items;
}
