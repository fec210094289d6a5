use Rattle.std.proofs.Common.{◌≡◌, ◌++◌, List, ℕ, length, drop, take, arith, ap, subst, sym, ◌∙◌}
use Rattle.std.proofs.lemmas.List.{take_at}
use Rattle.spin_place.specs.Inner.Candidates.{bindings_of}
use Rattle.spin_place.specs.Precedence.{MustPrecede}
use Rattle.spin_place.specs.Orders.{IsCycleOf}
use Rattle.spin_place.proofs.Rings.{IsCycleOf-turn}
use Rattle.spin_place.proofs.cycle.cycle_among.Goals as goal

pub returns : goal.returns
returns c =
    let R = MustPrecede (bindings_of c.args.rest.now) in
    let old = c.in_ok-ring.ring.items in
    let new = c.start_at_least.new.ring in
    let t = c.start_at_least.ensures.turned in
    let is : c.as_mut_slice.result.now ≡ old = c.as_mut_slice.ensures.value in
    let size : length new ≡ length old = c.start_at_least.auto.ring ∙ ap length is in
    let turned : new ≡ drop t.0 old ++ take t.0 old = t.2 ∙ ap (λ (ns : List ℕ). drop t.0 ns ++ take t.0 ns) is in
    let done : take c.in_ok-ring.ring.len (new ++ drop (length new) old) ≡ new = take_at new (drop (length new) old) c.in_ok-ring.ring.len (omega arith) in
    let cycle =
    IsCycleOf-turn R old new t.0 (omega arith) turned (omega (arith, c.in_ok-ring.ensures.several)) c.in_ok-ring.ensures.distinct c.in_ok-ring.ensures.closed c.start_at_least.ensures.least in
    subst (λ (ns : List ℕ). IsCycleOf R ns) (sym done) cycle
