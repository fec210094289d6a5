use Rattle.std.proofs.Common.{◌≡◌, ◌+◌, ◌<◌, ◌∷◌, length, get_or, take, ap, sym, subst, ◌∙◌, arith}
use Rattle.std.specs.Prelude.{IsTrue}
use Rattle.std.specs.List.{Contains}
use Rattle.spin_place.specs.declared.candidate.Candidate.{Candidate}
use Rattle.spin_place.specs.Inner.Candidates.{bindings_of}
use Rattle.spin_place.specs.Orders.{AreDistinct, IsRing}
use Rattle.spin_place.specs.Precedence.{must_precede, MustPrecede}
use Rattle.spin_place.proofs.PrecedenceWalks.{IsWalk, IsWalk-cons, IsRing-from_walk, length-walk}
use Rattle.spin_place.proofs.cycle.walk_back.Goals as goal
use Rattle.spin_place.proofs.cycle.walk_back.Goals.{In-Some}

-- what is left of the path when a number comes again
ring_of : (c : In-Some) → AreDistinct (take (c.in-Some.again + 1) c.insert.new.self.items) × IsRing (MustPrecede (bindings_of c.args.rest.now)) (take (c.in-Some.again + 1) c.insert.new.self.items)
ring_of c =
    let rest = c.args.rest.now in
    let x : Candidate = get_or rest c.loop-path.at c.index-rest-at.result in
    let y : Candidate = get_or rest c.predecessor-at.result c.index-rest-at-in-loop-path.result in
    let is : x ≡ get_or rest c.loop-path.at x = ap (λ d. get_or rest c.loop-path.at d) c.index-rest-at.is in
    let is' : y ≡ get_or rest c.predecessor-at.result y = ap (λ d. get_or rest c.predecessor-at.result d) c.index-rest-at-in-loop-path.is in
    let h : IsTrue (must_precede y.binding.now x.binding.now) = c.predecessor-at.ensures.precedes c.index-rest-at-in-loop-path.result in
    let inserted : c.insert.new.self.items ≡ x.binding.now.number ∷ c.loop-path.path.items = c.in_ok-insert.ensures.items in
    let read = c.deref.ensures.value ∙ inserted in
    let found : (c.in-Some.again < length c.deref.result.now) × (get_or c.deref.result.now c.in-Some.again 0 ≡ y.binding.now.number) = c.in-Some.ensures in
    let at = subst (λ ns. (c.in-Some.again < length ns) × (get_or ns c.in-Some.again 0 ≡ y.binding.now.number)) read found in
    subst (λ ns. AreDistinct (take (c.in-Some.again + 1) ns) × IsRing (MustPrecede (bindings_of rest)) (take (c.in-Some.again + 1) ns)) (sym inserted)
    (IsRing-from_walk rest c.loop-path.at c.predecessor-at.result c.loop-path.path.items x y c.loop-path.invariant is c.predecessor-at.ensures.there is' h c.in-Some.again at.0 at.1)

pub returns-in-Some-clause-distinct : goal.returns-in-Some-clause-distinct
returns-in-Some-clause-distinct c =
    subst (λ ns. AreDistinct ns) (sym c.truncate.ensures.items) (ring_of (goal.at.returns-in-Some-clause-distinct c).In-Some).0

pub returns-in-Some-clause-closed : goal.returns-in-Some-clause-closed
returns-in-Some-clause-closed c =
    subst (λ ns. IsRing (MustPrecede (bindings_of c.args.rest.now)) ns) (sym c.truncate.ensures.items) (ring_of (goal.at.returns-in-Some-clause-closed c).In-Some).1

pub loop-path-preserved : goal.loop-path-preserved
loop-path-preserved c =
    let rest = c.args.rest.now in
    let x : Candidate = get_or rest c.loop-path.at c.index-rest-at.result in
    let y : Candidate = get_or rest c.predecessor-at.result c.index-rest-at-in-loop-path.result in
    let is : x ≡ get_or rest c.loop-path.at x = ap (λ d. get_or rest c.loop-path.at d) c.index-rest-at.is in
    let is' : y ≡ get_or rest c.predecessor-at.result y = ap (λ d. get_or rest c.predecessor-at.result d) c.index-rest-at-in-loop-path.is in
    let h : IsTrue (must_precede y.binding.now x.binding.now) = c.predecessor-at.ensures.precedes c.index-rest-at-in-loop-path.result in
    let inserted : c.insert.new.self.items ≡ x.binding.now.number ∷ c.loop-path.path.items = c.in_ok-insert.ensures.items in
    let read = c.deref.ensures.value ∙ inserted in
    let absent : Contains c.deref.result.now y.binding.now.number → ⊥ = c.in_default.ensures in
    subst (λ ns. IsWalk rest c.predecessor-at.result ns) (sym inserted)
    (IsWalk-cons rest c.loop-path.at c.predecessor-at.result c.loop-path.path.items x y c.loop-path.invariant is c.predecessor-at.ensures.there is' h
    (subst (λ ns. Contains ns y.binding.now.number → ⊥) read absent))

pub loop-path-smaller : goal.loop-path-smaller
loop-path-smaller c =
    omega (arith, length-walk c.args.rest.now c.loop-path.at c.loop-path.path.items c.loop-path.invariant, ap length c.in_ok-insert.ensures.items)
