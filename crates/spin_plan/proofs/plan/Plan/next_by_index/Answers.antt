use Rattle.std.proofs.Common.{◌≡◌, ◌∙◌, sym, subst, arith, true, length, Some}
use Rattle.std.specs.Prelude.{IsSomeAnd}
use Rattle.spin_plan.specs.Next.{IsGuard, guards_hold}
use Rattle.spin_plan.specs.Keys.{may_fire}
use Rattle.spin_plan.specs.Planned.{key_value}
use Rattle.spin_plan.proofs.CandidateWalks.{free_rises, keyed_rises, found_next, next_within, all_at, none_holds, none_with, asked_more, asked_rest}
use Rattle.std.specs.List.{All}
use Rattle.std.specs.List.Sorted.{IsNonDecreasing}
use Rattle.spin_plan.proofs.plan.Plan.next_by_index.Goals as goal

pub next_candidate-requires-clause-free : goal.next_candidate-requires-clause-free
next_candidate-requires-clause-free g c = free_rises (g.C.Guards.tests c.args.guards.now) c.args.self.now c.requires.over

pub next_candidate-requires-clause-keyed : goal.next_candidate-requires-clause-keyed
next_candidate-requires-clause-keyed g c =
    let p = c.args.self.now in
    subst IsNonDecreasing (sym c.keyed_at-keyed.ensures) (keyed_rises (g.C.Guards.tests c.args.guards.now) p (key_value p.key c.args.args.now) c.requires.over)

pub binding-requires : goal.binding-requires
binding-requires g c =
    let p = c.args.self.now in
    let tests = g.C.Guards.tests c.args.guards.now in
    let next = found_next tests c.args.args.now p c.candidates.at c.keyed_at-keyed.result.now
    (Some c.in-Some.candidate) c.requires.over c.keyed_at-keyed.ensures (sym c.in-Some.is ∙ c.next_candidate.ensures.least) in
    next_within (may_fire tests p.key c.args.args.now) p.bindings c.candidates.at c.in-Some.candidate next

pub admits_all-requires-clause-own : goal.admits_all-requires-clause-own
admits_all-requires-clause-own g c = all_at (λ b. IsGuard (length (g.C.Guards.tests c.args.guards.now)) b.own_guard) c.args.self.now.bindings c.in-Some.candidate _ c.requires.own c.binding.ensures

pub admits_all-requires-clause-imposed : goal.admits_all-requires-clause-imposed
admits_all-requires-clause-imposed g c =
    all_at (λ b. All (IsGuard (length (g.C.Guards.tests c.args.guards.now))) b.imposed) c.args.self.now.bindings c.in-Some.candidate _ c.requires.imposed c.binding.ensures

pub returns-then-admits_all-clause-next : goal.returns-then-admits_all-clause-next
returns-then-admits_all-clause-next g c =
    let p = c.args.self.now in
    let tests = g.C.Guards.tests c.args.guards.now in
    let args = c.args.args.now in
    let next =
    found_next tests args p c.candidates.at c.keyed_at-keyed.result.now (Some c.in-Some.candidate) c.requires.over c.keyed_at-keyed.ensures (sym c.in-Some.is ∙ c.next_candidate.ensures.least) in (
      omega (arith, c.candidates.invariant.0, next.0),
      subst (λ o. IsSomeAnd o (λ x. guards_hold tests args x ≡ true)) (sym c.binding.ensures) (sym c.admits_all.ensures.holds ∙ c.if-admits_all.true),
      none_holds tests p.key args p.bindings c.args.from c.candidates.at c.in-Some.candidate c.candidates.invariant.1 next.2,
    )

pub returns-then-admits_all-clause-within : goal.returns-then-admits_all-clause-within
returns-then-admits_all-clause-within g c =
    let p = c.args.self.now in
    let tests = g.C.Guards.tests c.args.guards.now in
    let next = found_next tests c.args.args.now p c.candidates.at c.keyed_at-keyed.result.now
    (Some c.in-Some.candidate) c.requires.over c.keyed_at-keyed.ensures (sym c.in-Some.is ∙ c.next_candidate.ensures.least) in
    next_within (may_fire tests p.key c.args.args.now) p.bindings c.candidates.at c.in-Some.candidate next

pub returns-then-admits_all-clause-small : goal.returns-then-admits_all-clause-small
returns-then-admits_all-clause-small g c =
    let p = c.args.self.now in
    let tests = g.C.Guards.tests c.args.guards.now in
    let next = found_next tests c.args.args.now p c.candidates.at c.keyed_at-keyed.result.now
    (Some c.in-Some.candidate) c.requires.over c.keyed_at-keyed.ensures (sym c.in-Some.is ∙ c.next_candidate.ensures.least) in
    let within = next_within (may_fire tests p.key c.args.args.now) p.bindings c.candidates.at c.in-Some.candidate next in
    omega (arith, within, c.next_candidate.ensures.small)

pub returns-then-admits_all-clause-steps : goal.returns-then-admits_all-clause-steps
returns-then-admits_all-clause-steps g c =
    let p = c.args.self.now in
    let tests = g.C.Guards.tests c.args.guards.now in
    let args = c.args.args.now in
    let next =
    found_next tests args p c.candidates.at c.keyed_at-keyed.result.now (Some c.in-Some.candidate) c.requires.over c.keyed_at-keyed.ensures (sym c.in-Some.is ∙ c.next_candidate.ensures.least) in
    let more = asked_more tests p.key args p.bindings c.args.from c.candidates.at c.in-Some.candidate _ c.candidates.invariant.0 next c.binding.ensures in
    omega (arith, c.candidates.invariant.2, c.admits_all.ensures.steps, more)

pub overflow_add-at : goal.overflow_add-at
overflow_add-at g c =
    let p = c.args.self.now in
    let tests = g.C.Guards.tests c.args.guards.now in
    let next = found_next tests c.args.args.now p c.candidates.at c.keyed_at-keyed.result.now
    (Some c.in-Some.candidate) c.requires.over c.keyed_at-keyed.ensures (sym c.in-Some.is ∙ c.next_candidate.ensures.least) in
    let within = next_within (may_fire tests p.key c.args.args.now) p.bindings c.candidates.at c.in-Some.candidate next in
    omega (arith, within, c.next_candidate.ensures.small)

pub candidates-smaller : goal.candidates-smaller
candidates-smaller g c =
    let p = c.args.self.now in
    let tests = g.C.Guards.tests c.args.guards.now in
    let next = found_next tests c.args.args.now p c.candidates.at c.keyed_at-keyed.result.now
    (Some c.in-Some.candidate) c.requires.over c.keyed_at-keyed.ensures (sym c.in-Some.is ∙ c.next_candidate.ensures.least) in
    let within = next_within (may_fire tests p.key c.args.args.now) p.bindings c.candidates.at c.in-Some.candidate next in
    omega (arith, within, next.0)

pub candidates-preserved : goal.candidates-preserved
candidates-preserved g c =
    let p = c.args.self.now in
    let tests = g.C.Guards.tests c.args.guards.now in
    let args = c.args.args.now in
    let next =
    found_next tests args p c.candidates.at c.keyed_at-keyed.result.now (Some c.in-Some.candidate) c.requires.over c.keyed_at-keyed.ensures (sym c.in-Some.is ∙ c.next_candidate.ensures.least) in
    let more = asked_more tests p.key args p.bindings c.args.from c.candidates.at c.in-Some.candidate _ c.candidates.invariant.0 next c.binding.ensures in
    let fails = sym c.admits_all.ensures.holds ∙ c.if-admits_all.false in (
      omega (arith, c.candidates.invariant.0, next.0),
      none_with tests args p.bindings c.args.from c.in-Some.candidate
          _ (none_holds tests p.key args p.bindings c.args.from c.candidates.at c.in-Some.candidate c.candidates.invariant.1 next.2) c.binding.ensures fails,
      omega (arith, c.candidates.invariant.2, c.admits_all.ensures.steps, more),
    )

pub returns-clause-next : goal.returns-clause-next
returns-clause-next g c =
    let p = c.args.self.now in
    let tests = g.C.Guards.tests c.args.guards.now in
    let args = c.args.args.now in
    let next = found_next tests args p c.candidates.at c.keyed_at-keyed.result.now _ c.requires.over c.keyed_at-keyed.ensures (sym c.in_default.is ∙ c.next_candidate.ensures.least) in
    none_holds tests p.key args p.bindings c.args.from c.candidates.at (length p.bindings) c.candidates.invariant.1 next

pub returns-clause-steps : goal.returns-clause-steps
returns-clause-steps g c =
    let p = c.args.self.now in
    let tests = g.C.Guards.tests c.args.guards.now in
    let args = c.args.args.now in
    let next = found_next tests args p c.candidates.at c.keyed_at-keyed.result.now _ c.requires.over c.keyed_at-keyed.ensures (sym c.in_default.is ∙ c.next_candidate.ensures.least) in
    let rest = asked_rest tests p.key args p.bindings c.args.from c.candidates.at c.candidates.invariant.0 next in
    omega (arith, c.candidates.invariant.2, rest)
