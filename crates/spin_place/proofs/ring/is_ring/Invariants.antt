use Rattle.std.proofs.Common.{drop}
use Rattle.spin_place.specs.Orders.{Leads, IsRing}
use Rattle.spin_place.specs.Precedence.{MustPrecede}
use Rattle.spin_place.proofs.ring.is_ring.Given as goal

-- the numbers are a ring just where those that are left lead back to the first
abbrev pub invariant-loop-next : goal.invariant-loop-next
invariant-loop-next l = record {
  on : IsRing (MustPrecede l.bindings) l.numbers → Leads (MustPrecede l.bindings) l.last (drop l.next-index l.others) l.first;
  back : Leads (MustPrecede l.bindings) l.last (drop l.next-index l.others) l.first → IsRing (MustPrecede l.bindings) l.numbers;
}
