use mir.Val.{bool_byte}
use Rattle.std.proofs.Common.{◌≡◌, ◌≤◌, ◌-◌, ◌++◌, ◌∷◌, [], List, ℕ, Bool, true, false, not, All, vec_len, length, take, drop, map, refl, ap, subst, sym, ◌∙◌, arith}
use Rattle.std.specs.Prelude.{IsTrue}
use Rattle.std.specs.List.{remove}
use Rattle.std.proofs.lemmas.List.{take_at, nil_from_length, length-map}
use Rattle.std.proofs.lemmas.Bool.{eqb-true}
use Rattle.std.proofs.lemmas.List.Sorted.{sum_by-IsPermutation}
use Rattle.spin_place.specs.declared.binding.Binding.{Binding}
use Rattle.spin_place.specs.declared.candidate.Candidate.{Candidate}
use Rattle.spin_place.specs.declared.links.Link.{Link}
use Rattle.spin_place.specs.Inner.Links.{times_linked, times_led}
use Rattle.spin_place.specs.Inner.Candidates.{bindings_of, released, is_ready, AreCounted, AreRising, EachWaits, IsFirstReady}
use Rattle.spin_place.specs.Orders.{IsCycleOf}
use Rattle.spin_place.specs.Precedence.{is_first, is_last, MustPrecede, IsCycle, IsTheOrder}
use Rattle.spin_place.proofs.NumberLists.{one_if}
use Rattle.spin_place.proofs.BindingPlacing.{IsKept, IsPlacing, IsPlacing-nil, IsPlacing-more, IsPlacing-released, IsKept-more, IsPlacing-done, EachWaits-from_kept, IsCycle-from_rest, IsCycle-unlawful, waits_for, rising_without, counted_without}
use Rattle.spin_place.proofs.run_order.order.Goals as goal

-- what a `bool` is as a number
as_number : (b : Bool) → bool_byte b ≡ one_if b
as_number true = refl
as_number false = refl

pub returns-then-are_unplaced-clause-order : goal.returns-then-are_unplaced-clause-order
returns-then-are_unplaced-clause-order c =
    subst (λ ns. IsTheOrder c.args.bindings.now ns) (sym c.in_ok-numbers_in_place.ensures) (c.are_unplaced.ensures.order c.if-are_unplaced.true)

pub returns-clause-order : goal.returns-clause-order
returns-clause-order c =
    let none : vec_len c.loop-rest.rest ≡ 0 = eqb-true (vec_len c.loop-rest.rest) 0 (sym c.is_empty.ensures ∙ c.loop-rest-test.false) in
    let e : c.loop-rest.rest.items ≡ [] = nil_from_length c.loop-rest.rest.items (omega arith) in
    IsPlacing-done c.args.bindings.now c.loop-rest.rest.items c.loop-rest.placed e c.loop-rest.invariant.placing

pub loop-rest-init : goal.loop-rest-init
loop-rest-init c =
    let bs = c.args.bindings.now in
    let rest = c.in_ok-rest.rest.items in
    let same = c.in_ok-rest.ensures.bindings in
    record {
      kept = record {
        counted = subst (λ (ls : List Link). AreCounted ls rest) c.deref.ensures.value c.in_ok-rest.ensures.counted;
        rising = c.in_ok-rest.ensures.rising;
        firsts = c.count_first-firsts.ensures ∙ sym (sum_by-IsPermutation (λ (b : Binding). one_if (is_first b.place)) bs (bindings_of rest) same);
        inner = c.count_inner-inner.ensures ∙ sym (sum_by-IsPermutation (λ (b : Binding). one_if (not (is_last b.place))) bs (bindings_of rest) same);
      };
      placing = subst (λ ns. IsPlacing bs rest ns) (sym c.in_ok-placed.ensures) (IsPlacing-nil bs rest same);
    }

pub cycle_among-requires-clause-waits : goal.cycle_among-requires-clause-waits
cycle_among-requires-clause-waits c =
    let rest = c.loop-rest.rest.items in
    let all : All (λ (x : Candidate). IsTrue (is_ready c.loop-rest.firsts c.loop-rest.inner x) → ⊥) rest =
    subst (λ (cs : List Candidate). All (λ (x : Candidate). IsTrue (is_ready c.loop-rest.firsts c.loop-rest.inner x) → ⊥) cs) c.deref-in-loop-rest.ensures.value c.in_default.ensures in
    subst (λ (cs : List Candidate). EachWaits cs) (sym c.deref-in_default.ensures.value)
    (EachWaits-from_kept c.args.bindings.now c.in_ok-links.links.items c.requires c.in_ok-links.ensures.linked rest c.loop-rest.firsts c.loop-rest.inner
    c.loop-rest.invariant.placing.within c.loop-rest.invariant.kept all)

pub returns-in_default-clause-cycle : goal.returns-in_default-clause-cycle
returns-in_default-clause-cycle c =
    subst (λ ns. IsCycle c.args.bindings.now ns) (sym c.from_vec.ensures)
    (IsCycle-from_rest c.args.bindings.now c.loop-rest.rest.items c.in_ok-cycle.cycle.items c.loop-rest.invariant.placing.within
    (subst (λ (cs : List Candidate). IsCycleOf (MustPrecede (bindings_of cs)) c.in_ok-cycle.cycle.items) c.deref-in_default.ensures.value c.in_ok-cycle.ensures))

pub returns-in_default-clause-unlawful : goal.returns-in_default-clause-unlawful
returns-in_default-clause-unlawful c =
    IsCycle-unlawful c.args.bindings.now c.in_ok-cycle.cycle.items
    (IsCycle-from_rest c.args.bindings.now c.loop-rest.rest.items c.in_ok-cycle.cycle.items c.loop-rest.invariant.placing.within
    (subst (λ (cs : List Candidate). IsCycleOf (MustPrecede (bindings_of cs)) c.in_ok-cycle.cycle.items) c.deref-in_default.ensures.value c.in_ok-cycle.ensures))

-- the first one that is ready, found in the list as it was lent
first_of : (rest lent : List Candidate) (firsts inner at : ℕ) → lent ≡ rest → IsFirstReady firsts inner lent at → IsFirstReady firsts inner rest at
first_of rest lent firsts inner at is best = subst (λ (cs : List Candidate). IsFirstReady firsts inner cs at) is best

pub overflow_sub-firsts : goal.overflow_sub-firsts
overflow_sub-firsts c =
    let rest = c.loop-rest.rest.items in
    let at = c.in-Some.at in
    let x = c.remove.result in
    let kept = c.loop-rest.invariant.kept in
    let best = first_of rest c.deref-in-loop-rest.result.now c.loop-rest.firsts c.loop-rest.inner at c.deref-in-loop-rest.ensures.value c.in-Some.ensures in
    let less : c.from.result ≡ one_if (is_first x.binding.now.place) = c.from.ensures ∙ as_number c.is_first.result ∙ ap one_if c.is_first.ensures in
    omega (
      arith,
      less,
      kept.firsts,
      counted_without c.args.bindings.now c.in_ok-links.links.items c.requires c.in_ok-links.ensures.linked rest c.loop-rest.firsts c.loop-rest.inner
          c.loop-rest.invariant.placing.within kept at x best c.remove.ensures.value (λ b. is_first b.place),
    )

pub overflow_sub-inner : goal.overflow_sub-inner
overflow_sub-inner c =
    let rest = c.loop-rest.rest.items in
    let at = c.in-Some.at in
    let x = c.remove.result in
    let kept = c.loop-rest.invariant.kept in
    let best = first_of rest c.deref-in-loop-rest.result.now c.loop-rest.firsts c.loop-rest.inner at c.deref-in-loop-rest.ensures.value c.in-Some.ensures in
    let less : c.from-in-loop-rest.result ≡ one_if (not (is_last x.binding.now.place)) = c.from-in-loop-rest.ensures ∙ as_number (not c.is_last.result) ∙ ap (λ b. one_if (not b)) c.is_last.ensures in
    omega (
      arith,
      less,
      kept.inner,
      counted_without c.args.bindings.now c.in_ok-links.links.items c.requires c.in_ok-links.ensures.linked rest c.loop-rest.firsts c.loop-rest.inner
          c.loop-rest.invariant.placing.within kept at x best c.remove.ensures.value (λ b. not (is_last b.place)),
    )

pub release-requires-clause-rising : goal.release-requires-clause-rising
release-requires-clause-rising c =
    let rest = c.loop-rest.rest.items in
    let at = c.in-Some.at in
    let best = first_of rest c.deref-in-loop-rest.result.now c.loop-rest.firsts c.loop-rest.inner at c.deref-in-loop-rest.ensures.value c.in-Some.ensures in
    let others : c.deref_mut.result.now ≡ remove rest at = c.deref_mut.ensures.value ∙ c.remove.ensures.items in
    subst (λ (cs : List Candidate). AreRising cs) (sym others)
    (rising_without c.args.bindings.now c.in_ok-links.links.items c.requires c.in_ok-links.ensures.linked rest c.loop-rest.firsts c.loop-rest.inner
    c.loop-rest.invariant.placing.within c.loop-rest.invariant.kept at c.remove.result best c.remove.ensures.value)

pub release-requires-clause-waits : goal.release-requires-clause-waits
release-requires-clause-waits c =
    let links = c.in_ok-links.links.items in
    let rest = c.loop-rest.rest.items in
    let at = c.in-Some.at in
    let x = c.remove.result in
    let led = c.links_from.result.now in
    let leads : (n : ℕ) → times_led led n ≡ times_linked links x.binding.now.number n =
    λ n. c.links_from.ensures n ∙ ap (λ (ls : List Link). times_linked ls x.binding.now.number n) c.deref-in-loop-rest-2.ensures.value in
    let best = first_of rest c.deref-in-loop-rest.result.now c.loop-rest.firsts c.loop-rest.inner at c.deref-in-loop-rest.ensures.value c.in-Some.ensures in
    let others : c.deref_mut.result.now ≡ remove rest at = c.deref_mut.ensures.value ∙ c.remove.ensures.items in
    subst (λ (cs : List Candidate). All (λ (y : Candidate). times_led led y.binding.now.number ≤ y.waits) cs) (sym others)
    (waits_for c.args.bindings.now links c.requires c.in_ok-links.ensures.linked rest c.loop-rest.firsts c.loop-rest.inner
    c.loop-rest.invariant.placing.within c.loop-rest.invariant.kept at x best c.remove.ensures.value led leads)

pub loop-rest-preserved : goal.loop-rest-preserved
loop-rest-preserved c =
    let bs = c.args.bindings.now in
    let links = c.in_ok-links.links.items in
    let rest = c.loop-rest.rest.items in
    let firsts = c.loop-rest.firsts in
    let inner = c.loop-rest.inner in
    let at = c.in-Some.at in
    let x = c.remove.result in
    let new = c.release.new.rest in
    let led = c.links_from.result.now in
    let within = c.loop-rest.invariant.placing.within in
    let kept = c.loop-rest.invariant.kept in
    let leads : (n : ℕ) → times_led led n ≡ times_linked links x.binding.now.number n =
    λ n. c.links_from.ensures n ∙ ap (λ (ls : List Link). times_linked ls x.binding.now.number n) c.deref-in-loop-rest-2.ensures.value in
    let best = first_of rest c.deref-in-loop-rest.result.now firsts inner at c.deref-in-loop-rest.ensures.value c.in-Some.ensures in
    let others : c.deref_mut.result.now ≡ remove rest at = c.deref_mut.ensures.value ∙ c.remove.ensures.items in
    let same : new ≡ map (released led) (remove rest at) = c.release.ensures ∙ ap (λ (cs : List Candidate). map (released led) cs) others in
    let size : length new ≡ length c.remove.new.self.items = ap length same ∙ length-map (remove rest at) (released led) ∙ sym (ap length c.remove.ensures.items) in
    let left : take c.remove.new.self.len (new ++ drop (length new) c.remove.new.self.items) ≡ map (released led) (remove rest at) =
    take_at new (drop (length new) c.remove.new.self.items) c.remove.new.self.len (omega arith) ∙ same in
    let pushed : c.push.new.self ≡ c.loop-rest.placed ++ x.binding.now.number ∷ [] = c.in_ok-push.ensures.ok in
    let placing = IsPlacing-released bs links c.requires c.in_ok-links.ensures.linked rest firsts inner within kept at x best c.remove.ensures.value led leads (c.loop-rest.placed ++ x.binding.now.number ∷ [])
    (IsPlacing-more bs links c.requires c.in_ok-links.ensures.linked rest firsts inner within kept at x best c.remove.ensures.value c.loop-rest.placed c.loop-rest.invariant.placing) in
    let less : c.from.result ≡ one_if (is_first x.binding.now.place) = c.from.ensures ∙ as_number c.is_first.result ∙ ap one_if c.is_first.ensures in
    let less' : c.from-in-loop-rest.result ≡ one_if (not (is_last x.binding.now.place)) = c.from-in-loop-rest.ensures ∙ as_number (not c.is_last.result) ∙ ap (λ b. one_if (not b)) c.is_last.ensures in
    record {
      kept = subst (λ (cs : List Candidate). IsKept links cs (firsts - c.from.result) (inner - c.from-in-loop-rest.result)) (sym left)
          (IsKept-more bs links c.requires c.in_ok-links.ensures.linked rest firsts inner within kept at x best c.remove.ensures.value led leads
          (firsts - c.from.result) (inner - c.from-in-loop-rest.result) (ap (λ n. firsts - n) less) (ap (λ n. inner - n) less'));
      placing = subst (λ (cs : List Candidate). IsPlacing bs cs c.push.new.self) (sym left) (subst (λ ns. IsPlacing bs (map (released led) (remove rest at)) ns) (sym pushed) placing);
    }
