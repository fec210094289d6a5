-- Placing the least binding that is ready, again and again.
use Rattle.std.proofs.Common.{◌≡◌, ℕ, zero, suc, ◌+◌, ◌-◌, ◌<◌, ◌≤◌, Bool, true, false, not, ◌&&◌, ◌||◌, List, [], ◌∷◌, ◌++◌, length, get_or, map, count_by, sum_by, refl, sym, ap, subst, ◌∙◌, inl, inr, ◌⊎◌, arith}
use Rattle.std.specs.Prelude.{IsTrue, ◌==◌}
use Rattle.std.specs.List.{All, AllPairs, Contains, remove}
use Rattle.std.specs.List.Sorted.{IsPermutation}
use Rattle.std.proofs.lemmas.Bool.{or_cases, or_parts, cases_Bool, cases_order, eqb-true, eqb-false, not-true, not-false, both_ways, false≢true}
use Rattle.std.proofs.lemmas.List.{append_assoc, append-nil, get_or-map, get_or_default, length-map}
use Rattle.std.proofs.lemmas.List.Elements.{All-contains, All-contains_itself, All-map, All-tail}
use Rattle.std.proofs.lemmas.List.Quantifiers.{all_pairs_remove}
use Rattle.std.proofs.lemmas.List.Sums.{sum_by-cons}
use Rattle.std.proofs.lemmas.List.Sorted.{IsPermutation-remove, IsPermutation-map, IsPermutation-sym, All-permutation, sum_by-IsPermutation}
use Rattle.spin_place.specs.declared.binding.Binding.{Binding}
use Rattle.spin_place.specs.declared.candidate.Candidate.{Candidate}
use Rattle.spin_place.specs.declared.links.Link.{Link}
use Rattle.spin_place.specs.Inner.Links.{said, times_linked, times_led, times_held}
use Rattle.spin_place.specs.Inner.Candidates.{bindings_of, numbers_left, released, is_ready, AreCounted, AreRising, EachWaits, IsFirstReady}
use Rattle.spin_place.specs.Orders.{AreDistinct, IsLeastOrder, Leads, IsRing, IsCycleOf}
use Rattle.spin_place.specs.Precedence.{is_first, is_last, must_precede, numbers_of, MustPrecede, IsTheOrder, IsLawful, IsCycle}
use Rattle.spin_place.proofs.NumberLists.{one_if, none_pass, some_passes, map-remove}
use Rattle.spin_place.proofs.LawfulOrders.{length-distinct, IsLeastOrder-nil, IsLeastOrder-cons, IsLeastOrder-permutation, IsCycleOf-unlawful}
use Rattle.spin_place.proofs.Precedences.{MustPrecede-irreflexive, MustPrecede-within, MustPrecede-from, MustPrecede-more, MustPrecede-at, Contains-number}
use Rattle.spin_place.proofs.PrecedenceWalks.{number_at, Contains-binding}
use Rattle.spin_place.proofs.LinkCounts.{times_held-cons, times_held-permutation, some_holds, holds}
use Rattle.spin_place.proofs.LinkLaws.{linked_precedes, precedes_cases, first_precedes, last_follows}
use Rattle.spin_place.proofs.CandidateLists.{bindings-kept, numbers-kept, number_of_at, length-numbers, rising-kept}

three_parts : (a f l : Bool) → (a && f && l) ≡ true → (a ≡ true) × ((f ≡ true) × (l ≡ true))
three_parts true true true h = (refl, (refl, refl))
three_parts true true false h = absurd (false≢true h)
three_parts true false l h = absurd (false≢true h)
three_parts false f l h = absurd (false≢true h)

three_cases : (a f l : Bool) → (a && f && l) ≡ false → (a ≡ false) ⊎ ((f ≡ false) ⊎ (l ≡ false))
three_cases false f l h = inl refl
three_cases true false l h = inr (inl refl)
three_cases true true l h = inr (inr h)

-- how many links lead to each, of how many go first and how many don't go last
pub record IsKept (links : List Link) (rest : List Candidate) (f i : ℕ) : Type 0 where
  pub counted : AreCounted links rest
  pub rising : AreRising rest
  pub firsts : f ≡ count_by (λ b. is_first b.place) (bindings_of rest)
  pub inner : i ≡ count_by (λ b. not (is_last b.place)) (bindings_of rest)

-- the candidates that are left, after these numbers: each lawful order of theirs goes on with these
pub record IsPlacing (bs : List Binding) (rest : List Candidate) (placed : List ℕ) : Type 0 where
  pub within : All (Contains bs) (bindings_of rest)
  pub onward : (ns : List ℕ) → IsLeastOrder (MustPrecede bs) (numbers_left rest) ns → IsTheOrder bs (placed ++ ns)

-- at the start all are left
pub IsPlacing-nil : (bs : List Binding) (rest : List Candidate) → IsPermutation bs (bindings_of rest) → IsPlacing bs rest []
IsPlacing-nil bs rest same = record {
  within = All-permutation (Contains bs) bs (bindings_of rest) same (All-contains_itself bs);
  onward = λ ns h. IsLeastOrder-permutation (MustPrecede bs) (numbers_left rest) (numbers_of bs) ns
      (IsPermutation-sym (numbers_of bs) (numbers_left rest) (IsPermutation-map (λ (b : Binding). b.number) bs (bindings_of rest) same)) h;
}

-- at the end none is left
pub IsPlacing-done : (bs : List Binding) (rest : List Candidate) (placed : List ℕ) → rest ≡ [] → IsPlacing bs rest placed → IsTheOrder bs placed
IsPlacing-done bs rest placed e w =
    let empty : IsLeastOrder (MustPrecede bs) (numbers_left rest) [] =
    subst (λ (cs : List Candidate). IsLeastOrder (MustPrecede bs) (numbers_left cs) []) (sym e) (IsLeastOrder-nil (MustPrecede bs)) in
    subst (λ ns. IsTheOrder bs ns) (append-nil placed) (w.onward [] empty)

-- the candidate of a binding that is left
left_at : (rest : List Candidate) (n : ℕ) → Contains (numbers_left rest) n → (d : Candidate) → (c : Candidate) × Contains (bindings_of rest) c.binding.now × (c.binding.now.number ≡ n)
left_at rest n (k, l, e) d =
    let inside : k < length rest = omega (arith, l, length-numbers rest) in
    let c = get_or rest k d in
    (c, Contains-binding rest k c inside (get_or_default rest k d c inside), sym (number_of_at rest k d inside) ∙ get_or_default (numbers_left rest) k 0 n l ∙ e)

module _ (bs : List Binding) (links : List Link) (distinct : AreDistinct (numbers_of bs)) (linked : (m n : ℕ) → times_linked links m n ≡ sum_by (said m n) bs)
    (rest : List Candidate) (firsts inner : ℕ) (within : All (Contains bs) (bindings_of rest)) (kept : IsKept links rest firsts inner) where
  inside : (b : Binding) → Contains (bindings_of rest) b → Contains bs b
  inside b here = All-contains (Contains bs) (bindings_of rest) b within here

  -- none of those that are left must precede one that is ready
  pub ready_precedes : (c : Candidate) (b : Binding) → Contains (bindings_of rest) c.binding.now → Contains (bindings_of rest) b
      → c.waits ≡ times_held (numbers_left rest) links c.binding.now.number → IsTrue (is_ready firsts inner c) → IsTrue (must_precede b c.binding.now) → ⊥
  ready_precedes c b here there counted ready h =
      let parts = three_parts (c.waits == 0) (is_first c.binding.now.place || firsts == 0) (not (is_last c.binding.now.place) || inner == 0) ready in
      elim (precedes_cases bs links distinct linked b c.binding.now (inside b there) (inside c.binding.now here) h) [
        | inl (t, f) ↦
            elim (or_cases (is_first c.binding.now.place) (firsts == 0) parts.1.0) [
              | inl other ↦ both_ways (is_first c.binding.now.place) f other
              | inr none ↦
                  let zero_count : count_by (λ (x : Binding). is_first x.place) (bindings_of rest) ≡ 0 = sym kept.firsts ∙ eqb-true firsts 0 none in
                  both_ways (is_first b.place)
                  (All-contains (λ (x : Binding). is_first x.place ≡ false) (bindings_of rest) b (none_pass (λ (x : Binding). is_first x.place) (bindings_of rest) zero_count) there) t
            ]
        | inr (inl (t, f)) ↦
            elim (or_cases (not (is_last c.binding.now.place)) (inner == 0) parts.1.1) [
              | inl other ↦ both_ways (is_last c.binding.now.place) (not-true (is_last c.binding.now.place) other) t
              | inr none ↦
                  let zero_count : count_by (λ (x : Binding). not (is_last x.place)) (bindings_of rest) ≡ 0 = sym kept.inner ∙ eqb-true inner 0 none in
                  both_ways (is_last b.place) f
                  (not-false (is_last b.place)
                  (All-contains (λ (x : Binding). not (is_last x.place) ≡ false) (bindings_of rest) b (none_pass (λ (x : Binding). not (is_last x.place)) (bindings_of rest) zero_count) there))
            ]
        | inr (inr some) ↦
            omega (arith, counted, eqb-true c.waits 0 parts.0, holds (numbers_left rest) links b.number c.binding.now.number (Contains-number (bindings_of rest) b there) some)
      ]

  -- one of those that are left must precede one that isn't
  pub unready_follows : (c : Candidate) → Contains (bindings_of rest) c.binding.now → c.waits ≡ times_held (numbers_left rest) links c.binding.now.number
      → is_ready firsts inner c ≡ false → (b : Binding) × Contains (bindings_of rest) b × IsTrue (must_precede b c.binding.now)
  unready_follows c here counted h =
      elim (three_cases (c.waits == 0) (is_first c.binding.now.place || firsts == 0) (not (is_last c.binding.now.place) || inner == 0) h) [
        | inl waits ↦
            let some : 0 < c.waits = omega (arith, eqb-false c.waits 0 waits) in
            let from = some_holds (numbers_left rest) links c.binding.now.number (omega (arith, counted, some)) in
            let left = left_at rest from.0 from.1 c in
            let link : 0 < times_linked links left.0.binding.now.number c.binding.now.number = subst (λ m. 0 < times_linked links m c.binding.now.number) (sym left.2) from.2 in
            (left.0.binding.now, left.1, linked_precedes bs links distinct linked left.0.binding.now c.binding.now (inside left.0.binding.now left.1) (inside c.binding.now here) link)
        | inr (inl f) ↦
            let parts = or_parts (is_first c.binding.now.place) (firsts == 0) f in
            let some : 0 < firsts = omega (arith, eqb-false firsts 0 parts.1) in
            let at = some_passes (λ (x : Binding). is_first x.place) (bindings_of rest) (omega (arith, kept.firsts, some)) in
            let there : Contains (bindings_of rest) at.1 = (at.0, at.2, at.3) in
            (at.1, there, first_precedes bs links distinct linked at.1 c.binding.now (inside at.1 there) (inside c.binding.now here) at.4 parts.0)
        | inr (inr f) ↦
            let parts = or_parts (not (is_last c.binding.now.place)) (inner == 0) f in
            let some : 0 < inner = omega (arith, eqb-false inner 0 parts.1) in
            let at = some_passes (λ (x : Binding). not (is_last x.place)) (bindings_of rest) (omega (arith, kept.inner, some)) in
            let there : Contains (bindings_of rest) at.1 = (at.0, at.2, at.3) in
            (at.1, there, last_follows bs links distinct linked at.1 c.binding.now (inside at.1 there) (inside c.binding.now here) (not-false (is_last c.binding.now.place) parts.0) (not-true (is_last at.1.place) at.4))
      ]

  -- where none is ready, each waits for one of those that are left
  pub EachWaits-from_kept : All (λ c. IsTrue (is_ready firsts inner c) → ⊥) rest → EachWaits rest
  EachWaits-from_kept waits k d l =
      let c = get_or rest k d in
      let here = Contains-binding rest k c l (get_or_default rest k d c l) in
      elim (cases_Bool (is_ready firsts inner c)) [
        | inl t ↦ absurd (waits k d l t)
        | inr f ↦
            let found = unready_follows c here (kept.counted k d l) f in
            let at = found.1 in
            let low : at.0 < length rest = omega (arith, at.1, length-map rest (λ (e : Candidate). e.binding.now)) in
            let e = get_or rest at.0 d in
            let same : found.0 ≡ e.binding.now = sym at.2 ∙ get_or-map (λ (a : Candidate). a.binding.now) rest at.0 d found.0 low in
            (at.0, e, low, get_or_default rest at.0 e d low, subst (λ (b : Binding). IsTrue (must_precede b c.binding.now)) same found.2)
      ]

  -- the first one that is ready
  module _ (at : ℕ) (x : Candidate) (best : IsFirstReady firsts inner rest at) (is : x ≡ get_or rest at x) where
    here : Contains (bindings_of rest) x.binding.now
    here = Contains-binding rest at x best.there is

    count : x.waits ≡ times_held (numbers_left rest) links x.binding.now.number
    count = subst (λ (c : Candidate). c.waits ≡ times_held (numbers_left rest) links c.binding.now.number) (sym is) (kept.counted at x best.there)

    ready : All (λ z. MustPrecede bs z x.binding.now.number → ⊥) (numbers_left rest)
    ready k d l r =
        let n = get_or (numbers_left rest) k d in
        let left = left_at rest n (k, l, get_or_default (numbers_left rest) k n d l) x in
        let b = left.0.binding.now in
        let t : IsTrue (is_ready firsts inner x) = subst (λ (c : Candidate). IsTrue (is_ready firsts inner c)) (sym is) (best.ready x) in
        ready_precedes x b here left.1 count t
        (MustPrecede-at bs b x.binding.now distinct (inside b left.1) (inside x.binding.now here) (subst (λ m. MustPrecede bs m x.binding.now.number) (sym left.2) r))

    least : (y : ℕ) → Contains (numbers_left rest) y → All (λ z. MustPrecede bs z y → ⊥) (numbers_left rest) → x.binding.now.number ≤ y
    least y (k, low, e) none =
        let high : k < length rest = omega (arith, low, length-numbers rest) in
        let c = get_or rest k x in
        let number : c.binding.now.number ≡ y = sym (number_of_at rest k x high) ∙ get_or_default (numbers_left rest) k 0 y low ∙ e in
        let first : get_or (numbers_left rest) at 0 ≡ x.binding.now.number = number_at rest at x best.there is in
        let one = number_of_at rest k x high in
        elim (cases_order at k) [
          | inl same ↦ omega (arith, number, first, one, ap (λ j. get_or (numbers_left rest) j 0) same)
          | inr (inl less) ↦ omega (arith, number, first, one, kept.rising at k 0 less low)
          | inr (inr more) ↦
              let there = Contains-binding rest k c high (get_or_default rest k x c high) in
              elim (cases_Bool (is_ready firsts inner c)) [
                | inl t ↦ absurd (best.before k x (omega arith) more t)
                | inr f ↦
                    let found = unready_follows c there (kept.counted k x high) f in
                    let r : MustPrecede bs found.0.number c.binding.now.number = MustPrecede-from bs found.0 c.binding.now (inside found.0 found.1) (inside c.binding.now there) found.2 in
                    absurd (All-contains (λ z. MustPrecede bs z y → ⊥) (numbers_left rest) found.0.number none (Contains-number (bindings_of rest) found.0 found.1)
                    (subst (λ n. MustPrecede bs found.0.number n) number r))
              ]
        ]

    front_bindings : IsPermutation (bindings_of rest) (x.binding.now ∷ bindings_of (remove rest at))
    front_bindings = IsPermutation-map (λ (c : Candidate). c.binding.now) rest (x ∷ remove rest at) (IsPermutation-remove rest at x best.there is)

    front_numbers : IsPermutation (numbers_left rest) (x.binding.now.number ∷ numbers_left (remove rest at))
    front_numbers = IsPermutation-map (λ (b : Binding). b.number) (bindings_of rest) (x.binding.now ∷ bindings_of (remove rest at)) front_bindings

    -- what holds each of the others: the candidate, and the others
    counts : All (λ c. c.waits ≡ times_linked links x.binding.now.number c.binding.now.number + times_held (numbers_left (remove rest at)) links c.binding.now.number) (remove rest at)
    counts k d low =
        let Counted : Candidate → Type 0 = λ c. c.waits ≡ times_held (numbers_left rest) links c.binding.now.number in
        let c = get_or (remove rest at) k d in
        let was : c.waits ≡ times_held (numbers_left rest) links c.binding.now.number =
        All-tail Counted x (remove rest at) (All-permutation Counted rest (x ∷ remove rest at) (IsPermutation-remove rest at x best.there is) kept.counted) k d low in
        was
        ∙ times_held-permutation (numbers_left rest) (x.binding.now.number ∷ numbers_left (remove rest at)) links c.binding.now.number front_numbers
        ∙ times_held-cons x.binding.now.number (numbers_left (remove rest at)) links c.binding.now.number

    -- those of one count among the others
    pub counted_without : (p : Binding → Bool) → count_by p (bindings_of rest) ≡ one_if (p x.binding.now) + count_by p (bindings_of (remove rest at))
    counted_without p =
        sym (sum_by-IsPermutation (λ (b : Binding). one_if (p b)) (bindings_of rest) (x.binding.now ∷ bindings_of (remove rest at)) front_bindings)
        ∙ sum_by-cons (λ (b : Binding). one_if (p b)) x.binding.now (bindings_of (remove rest at))

    pub rising_without : AreRising (remove rest at)
    rising_without =
        let same : numbers_left (remove rest at) ≡ remove (numbers_left rest) at =
        ap (λ (cs : List Binding). numbers_of cs) (map-remove (λ (c : Candidate). c.binding.now) rest at) ∙ map-remove (λ (b : Binding). b.number) (bindings_of rest) at in
        subst (λ ns. AllPairs (λ m n. m < n) ns) (sym same) (all_pairs_remove (λ m n. m < n) (numbers_left rest) at (omega (arith, best.there, length-numbers rest)) kept.rising)

    -- the least one that is ready takes the next place
    pub IsPlacing-more : (placed : List ℕ) → IsPlacing bs rest placed → IsPlacing bs (remove rest at) (placed ++ x.binding.now.number ∷ [])
    IsPlacing-more placed w = record {
      within = All-tail (Contains bs) x.binding.now (bindings_of (remove rest at)) (All-permutation (Contains bs) (bindings_of rest) (x.binding.now ∷ bindings_of (remove rest at)) front_bindings w.within);
      onward = λ ns h.
          let order = w.onward (x.binding.now.number ∷ ns) (IsLeastOrder-cons (MustPrecede bs) (MustPrecede-irreflexive bs) (numbers_left rest)
          (numbers_left (remove rest at)) ns x.binding.now.number front_numbers ready least h) in
          subst (λ ms. IsTheOrder bs ms) (sym (append_assoc placed (x.binding.now.number ∷ []) ns)) order;
    }

    -- with the links from it as they are
    module _ (led : List Link) (leads : (n : ℕ) → times_led led n ≡ times_linked links x.binding.now.number n) where
      -- the others wait for as many at least
      pub waits_for : All (λ c. times_led led c.binding.now.number ≤ c.waits) (remove rest at)
      waits_for k d low = let c = get_or (remove rest at) k d in omega (arith, counts k d low, leads c.binding.now.number)

      pub counted_others : AreCounted links (map (released led) (remove rest at))
      counted_others =
          All-map (λ (c : Candidate). c.waits ≡ times_held (numbers_left (map (released led) (remove rest at))) links c.binding.now.number)
          (released led) (remove rest at) (λ k d low.
          let c = get_or (remove rest at) k d in
          let less : c.waits - times_led led c.binding.now.number ≡ times_held (numbers_left (remove rest at)) links c.binding.now.number = omega (arith, counts k d low, leads c.binding.now.number) in
          less ∙ ap (λ ns. times_held ns links c.binding.now.number) (sym (numbers-kept (released led) (λ e. refl) (remove rest at))))

      pub IsKept-more : (firsts' inner' : ℕ) → firsts' ≡ firsts - one_if (is_first x.binding.now.place) → inner' ≡ inner - one_if (not (is_last x.binding.now.place))
          → IsKept links (map (released led) (remove rest at)) firsts' inner'
      IsKept-more firsts' inner' e e' =
          let same = bindings-kept (released led) (λ c. refl) (remove rest at) in
          record {
            counted = counted_others;
            rising = rising-kept (released led) (λ c. refl) (remove rest at) (map (released led) (remove rest at)) refl rising_without;
            firsts = omega (arith, e, kept.firsts, counted_without (λ b. is_first b.place), ap (λ (cs : List Binding). count_by (λ (b : Binding). is_first b.place) cs) same);
            inner = omega (arith, e', kept.inner, counted_without (λ b. not (is_last b.place)), ap (λ (cs : List Binding). count_by (λ (b : Binding). not (is_last b.place)) cs) same);
          }

      pub IsPlacing-released : (placed : List ℕ) → IsPlacing bs (remove rest at) placed → IsPlacing bs (map (released led) (remove rest at)) placed
      IsPlacing-released placed w =
          let same = bindings-kept (released led) (λ c. refl) (remove rest at) in
          record {
            within = subst (λ (cs : List Binding). All (Contains bs) cs) (sym same) w.within;
            onward = λ ns h. w.onward ns (subst (λ (cs : List Binding). IsLeastOrder (MustPrecede bs) (numbers_of cs) ns) same h);
          }

Leads-more : (R S : ℕ → ℕ → Type 0) → ((m n : ℕ) → R m n → S m n) → (first : ℕ) (ns : List ℕ) (last : ℕ) → Leads R first ns last → Leads S first ns last
Leads-more R S more first [] last h = more first last h
Leads-more R S more first (n ∷ ns) last h = (more first n h.0, Leads-more R S more n ns last h.1)

IsRing-more : (R S : ℕ → ℕ → Type 0) → ((m n : ℕ) → R m n → S m n) → (ns : List ℕ) → IsRing R ns → IsRing S ns
IsRing-more R S more [] h = h
IsRing-more R S more (n ∷ ns) h = Leads-more R S more n ns n h

-- a cycle among those that are left is one of the bindings
pub IsCycle-from_rest : (bs : List Binding) (rest : List Candidate) (cycle : List ℕ) → All (Contains bs) (bindings_of rest) → IsCycleOf (MustPrecede (bindings_of rest)) cycle → IsCycle bs cycle
IsCycle-from_rest bs rest cycle within h = record {
  several = h.several;
  distinct = h.distinct;
  least_first = h.least_first;
  closed = IsRing-more (MustPrecede (bindings_of rest)) (MustPrecede bs) (MustPrecede-more bs (bindings_of rest) within) cycle h.closed;
}

-- bindings with a cycle have no lawful order
pub IsCycle-unlawful : (bs : List Binding) (cycle : List ℕ) → IsCycle bs cycle → (ns : List ℕ) → IsLawful bs ns → ⊥
IsCycle-unlawful bs cycle h ns order =
    IsCycleOf-unlawful (MustPrecede bs) (MustPrecede-irreflexive bs) (numbers_of bs) cycle (MustPrecede-within bs) h ns order

Leads-within : (bs : List Binding) (first : ℕ) (ns : List ℕ) (last : ℕ) → Leads (MustPrecede bs) first ns last → All (Contains (numbers_of bs)) (first ∷ ns)
Leads-within bs first [] last h zero d l = (MustPrecede-within bs first last h).0
Leads-within bs first [] last h (suc k) d l = absurd (omega arith)
Leads-within bs first (n ∷ ns) last h zero d l = (MustPrecede-within bs first n h.0).0
Leads-within bs first (n ∷ ns) last h (suc k) d l = Leads-within bs n ns last h.1 k d (omega arith)

-- a cycle has at most as many numbers as there are bindings
pub cycle_fits : (bs : List Binding) (ns : List ℕ) → IsCycle bs ns → length ns ≤ length bs
cycle_fits bs [] h = omega arith
cycle_fits bs (n ∷ ns) h =
    omega (arith, length-distinct (n ∷ ns) (numbers_of bs) h.distinct (Leads-within bs n ns n h.closed), length-map bs (λ (b : Binding). b.number))
