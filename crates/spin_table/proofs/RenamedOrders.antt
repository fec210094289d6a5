-- Bindings under other numbers have the same orders and cycles, under the other numbers.
use Rattle.std.proofs.Common.{◌≡◌, ℕ, zero, suc, ◌+◌, ◌<◌, ◌≤◌, ◌⊎◌, Bool, not, ◌||◌, ◌&&◌, eqb, List, [], ◌∷◌, length, get_or, map, refl, sym, ap, subst, ◌∙◌, inl, inr, arith}
use Rattle.std.specs.Prelude.{IsTrue, slice_index}
use Rattle.std.specs.List.{All, AllPairs}
use Rattle.std.specs.List.Sorted.{IsPermutation}
use Rattle.std.proofs.lemmas.Bool.{cases_order}
use Rattle.std.proofs.lemmas.List.{get_or-map, get_or_default, length-map}
use Rattle.std.proofs.lemmas.List.Elements.{All-head, All-tail, All-map}
use Rattle.std.proofs.lemmas.List.Sorted.{IsPermutation-map, All-permutation}
use Rattle.spin_word.specs.declared.command.Place.{Place}
use Rattle.spin_word.specs.Commands.{no_number}
use Rattle.spin_place.specs.declared.binding.Binding.{Binding}
use Rattle.spin_place.specs.Orders.{IsLess, Leads, IsRing}
use Rattle.spin_place.specs.Precedence.{is_first, is_last, names, must_precede, numbers_of, MustPrecede, IsLawful, IsTheOrder, IsCycle, HasLawfulOrder}
use Rattle.spin_place.proofs.NumberLists.{times, times-cons, times-permutation, one_if, IsPermutation-from_times}
use Rattle.spin_table.specs.Renamings.{Rises, IsRenamedBinding, AreRenamed}
use Rattle.spin_table.proofs.RenamedNumbers.{one_to_one, same_test}
use Rattle.spin_table.proofs.RenamedBindings.{numbers_renamed, length_renamed, same_rest}

-- each binding and the one under its other number stand at one index
pub at_both : (to : ℕ → ℕ) (bs cs : List Binding) → AreRenamed to bs cs → (k : ℕ) (d : Binding) → k < length bs → IsRenamedBinding to (get_or bs k d) (get_or cs k d)
at_both to [] [] h k d l = absurd (omega arith)
at_both to [] (c ∷ cs) h k d l = absurd h
at_both to (b ∷ bs) [] h k d l = absurd h
at_both to (b ∷ bs) (c ∷ cs) h zero d l = h.0
at_both to (b ∷ bs) (c ∷ cs) h (suc k) d l = at_both to bs cs h.1 k d (omega arith)

-- a list of other numbers is that of some numbers
image : (to : ℕ → ℕ) (ys : List ℕ) → All (λ y. (x : ℕ) × (to x ≡ y)) ys → (zs : List ℕ) × (ys ≡ map to zs)
image to [] h = ([], refl)
image to (y ∷ ys) h =
    let first = All-head (λ y. (x : ℕ) × (to x ≡ y)) y ys h in
    let rest = image to ys (All-tail (λ y. (x : ℕ) × (to x ≡ y)) y ys h) in
    (first.0 ∷ rest.0, ap (λ n. n ∷ ys) (sym first.1) ∙ ap (λ l. to first.0 ∷ l) rest.1)

module _ (to : ℕ → ℕ) (rises : Rises to) where
  times-map : (n : ℕ) (xs : List ℕ) → times (to n) (map to xs) ≡ times n xs
  times-map n [] = refl
  times-map n (x ∷ xs) =
      times-cons (to n) (to x) (map to xs) ∙ ap (λ b. one_if b + times (to n) (map to xs)) (same_test to rises x n)
      ∙ ap (λ k. one_if (eqb x n) + k) (times-map n xs) ∙ sym (times-cons n x xs)

  -- another order of the other numbers is that of another order of the numbers
  pub order_back : (xs ys : List ℕ) → IsPermutation (map to xs) ys → (zs : List ℕ) × (ys ≡ map to zs) × IsPermutation xs zs
  order_back xs ys h =
      let all : All (λ y. (x : ℕ) × (to x ≡ y)) (map to xs) = All-map (λ y. (x : ℕ) × (to x ≡ y)) to xs (λ k d l. (get_or xs k d, refl)) in
      let made = image to ys (All-permutation (λ y. (x : ℕ) × (to x ≡ y)) (map to xs) ys h all) in
      let other = subst (λ l. IsPermutation (map to xs) l) made.1 h in
      let same = λ (n : ℕ). sym (times-map n xs) ∙ sym (times-permutation (to n) (map to xs) (map to made.0) other) ∙ times-map n made.0 in
      (made.0, made.1, IsPermutation-from_times xs made.0 same)

  no_greater : (m n : ℕ) → m ≤ n → to m ≤ to n
  no_greater m n l =
      elim (cases_order m n) [
        | inl same ↦ let is = ap to same in omega arith
        | inr (inl less) ↦ let up = rises m n less in omega arith
        | inr (inr more) ↦ absurd (omega arith)
      ]

  -- of two bindings the first must precede the second just where it must so under the other numbers
  pub must_both : (b c b' c' : Binding) → IsRenamedBinding to b c → IsRenamedBinding to b' c' → must_precede c c' ≡ must_precede b b'
  must_both b c b' c' h h' =
      let must : Bool → Place → Place → Bool → Bool → Bool = λ same p q x y. not same && (is_first p && not (is_first q) || is_last q && not (is_last p) || x || y) in
      let place : c.place ≡ b.place = same_rest to b c (λ (z : Binding). z.place) refl h in
      let place' : c'.place ≡ b'.place = same_rest to b' c' (λ (z : Binding). z.place) refl h' in
      let number : eqb c.number c'.number ≡ eqb b.number b'.number = ap (λ n. eqb n c'.number) h.number ∙ ap (λ n. eqb (to b.number) n) h'.number ∙ same_test to rises b.number b'.number in
      let named : to b.number < no_number = subst (λ n. n < no_number) h.number h.named in
      let named' : to b'.number < no_number = subst (λ n. n < no_number) h'.number h'.named in
      let before : names c.before c'.number ≡ names b.before b'.number = ap (names c.before) h'.number ∙ h.before b'.number h'.some named' in
      let after : names c'.after c.number ≡ names b'.after b.number = ap (names c'.after) h.number ∙ h'.after b.number h.some named in
      ap (λ x. must x c.place c'.place (names c.before c'.number) (names c'.after c.number)) number
      ∙ ap (λ x. must (eqb b.number b'.number) x c'.place (names c.before c'.number) (names c'.after c.number)) place
      ∙ ap (λ x. must (eqb b.number b'.number) b.place x (names c.before c'.number) (names c'.after c.number)) place'
      ∙ ap (λ x. must (eqb b.number b'.number) b.place b'.place x (names c'.after c.number)) before
      ∙ ap (λ x. must (eqb b.number b'.number) b.place b'.place (names b.before b'.number) x) after

  module _ (bs cs : List Binding) (h : AreRenamed to bs cs) where
    -- the binding under the other number at an index, and what is so of it
    other_at : (k : ℕ) (b : Binding) → k < length bs → get_or bs k b ≡ b → IsRenamedBinding to b (get_or cs k b)
    other_at k b l e = subst (λ x. IsRenamedBinding to x (get_or cs k b)) e (at_both to bs cs h k b l)

    first_at : (k : ℕ) (c : Binding) → k < length cs → get_or cs k c ≡ c → IsRenamedBinding to (get_or bs k c) c
    first_at k c l e = subst (λ x. IsRenamedBinding to (get_or bs k c) x) e (at_both to bs cs h k c (let same = length_renamed to bs cs h in omega arith))

    there : (k : ℕ) (b : Binding) → k < length bs → k < length cs
    there k b l = let same = length_renamed to bs cs h in omega arith

    pub must_to : (m n : ℕ) → MustPrecede bs m n → MustPrecede cs (to m) (to n)
    must_to m n (k, b, l, e, (is, (j, b', i, f, (is', must)))) =
        let c = get_or cs k b in
        let c' = get_or cs j b' in
        let r = other_at k b l e in
        let r' = other_at j b' i f in (
          k,
          c,
          there k b l,
          get_or_default cs k c b (there k b l),
          (r.number ∙ ap to is, (j, c', there j b' i, get_or_default cs j c' b' (there j b' i), (r'.number ∙ ap to is', subst IsTrue (sym (must_both b c b' c' r r')) must))),
        )

    pub must_back : (m n : ℕ) → MustPrecede cs (to m) (to n) → MustPrecede bs m n
    must_back m n (k, c, l, e, (is, (j, c', i, f, (is', must)))) =
        let b = get_or bs k c in
        let b' = get_or bs j c' in
        let r = first_at k c l e in
        let r' = first_at j c' i f in
        let same = length_renamed to bs cs h in
        let low : k < length bs = omega arith in
        let low' : j < length bs = omega arith in (
          k,
          b,
          low,
          get_or_default bs k b c low,
          (
            one_to_one to rises b.number m (sym r.number ∙ is),
            (
              j,
              b',
              low',
              get_or_default bs j b' c' low',
              (one_to_one to rises b'.number n (sym r'.number ∙ is'), subst IsTrue (must_both b c b' c' r r') must),
            ),
          ),
        )

    pairs_to : (ns : List ℕ) → AllPairs (λ m n. MustPrecede bs n m → ⊥) ns → AllPairs (λ m n. MustPrecede cs n m → ⊥) (map to ns)
    pairs_to ns pairs i j d less inside must =
        let low : j < length ns = omega (arith, length-map ns to) in
        let first = get_or-map to ns i d d (omega arith) in
        let second = get_or-map to ns j d d low in
        pairs i j d less low (must_back (get_or ns j d) (get_or ns i d) (subst (λ m. MustPrecede cs m (to (get_or ns i d))) second (subst (λ n. MustPrecede cs (get_or (map to ns) j d) n) first must)))

    pairs_back : (ns : List ℕ) → AllPairs (λ m n. MustPrecede cs n m → ⊥) (map to ns) → AllPairs (λ m n. MustPrecede bs n m → ⊥) ns
    pairs_back ns pairs i j d less inside must =
        let first = get_or-map to ns i d d (omega arith) in
        let second = get_or-map to ns j d d inside in
        let other = must_to (get_or ns j d) (get_or ns i d) must in
        pairs i j d less (omega (arith, length-map ns to)) (subst (λ m. MustPrecede cs m (get_or (map to ns) i d)) (sym second) (subst (λ n. MustPrecede cs (to (get_or ns j d)) n) (sym first) other))

    pub lawful_to : (ns : List ℕ) → IsLawful bs ns → IsLawful cs (map to ns)
    lawful_to ns (permutation, pairs) =
        (subst (λ l. IsPermutation l (map to ns)) (sym (numbers_renamed to bs cs h)) (IsPermutation-map to (numbers_of bs) ns permutation), pairs_to ns pairs)

    pub lawful_back : (ms : List ℕ) → IsLawful cs ms → (ns : List ℕ) × (ms ≡ map to ns) × IsLawful bs ns
    lawful_back ms (permutation, pairs) =
        let made = order_back (numbers_of bs) ms (subst (λ l. IsPermutation l ms) (numbers_renamed to bs cs h) permutation) in
        (made.0, made.1, (made.2, pairs_back made.0 (subst (λ l. AllPairs (λ m n. MustPrecede cs n m → ⊥) l) made.1 pairs)))

    pub orderly_to : HasLawfulOrder bs → HasLawfulOrder cs
    orderly_to (ns, lawful) = (map to ns, lawful_to ns lawful)

    pub orderly_back : HasLawfulOrder cs → HasLawfulOrder bs
    orderly_back (ms, lawful) = let back = lawful_back ms lawful in (back.0, back.2)

    less_to : (ms ns : List ℕ) → IsLess ms ns → IsLess (map to ms) (map to ns)
    less_to [] ns l = absurd l
    less_to (m ∷ ms) [] l = absurd l
    less_to (m ∷ ms) (n ∷ ns) (inl less) = inl (rises m n less)
    less_to (m ∷ ms) (n ∷ ns) (inr (same, less)) = inr (ap to same, less_to ms ns less)

    -- the order in which they run is the same
    pub the_order_to : (ns : List ℕ) → IsTheOrder bs ns → IsTheOrder cs (map to ns)
    the_order_to ns (lawful, least) = (lawful_to ns lawful, λ ms other. from_least ms (lawful_back ms other))
      where
        from_least : (ms : List ℕ) → (zs : List ℕ) × (ms ≡ map to zs) × IsLawful bs zs → (ms ≡ map to ns) ⊎ IsLess (map to ns) ms
        from_least ms (zs, is, other) =
            elim (least zs other) [
              | inl same ↦ inl (is ∙ ap (map to) same)
              | inr less ↦ inr (subst (IsLess (map to ns)) (sym is) (less_to ns zs less))
            ]

    leads_to : (first : ℕ) (ns : List ℕ) (last : ℕ) → Leads (MustPrecede bs) first ns last → Leads (MustPrecede cs) (to first) (map to ns) (to last)
    leads_to first [] last must = must_to first last must
    leads_to first (n ∷ ns) last (must, rest) = (must_to first n must, leads_to n ns last rest)

    ring_to : (ns : List ℕ) → IsRing (MustPrecede bs) ns → IsRing (MustPrecede cs) (map to ns)
    ring_to [] closed = absurd closed
    ring_to (n ∷ ns) closed = leads_to n ns n closed

    -- a cycle is one under the other numbers
    pub cycle_to : (ns : List ℕ) → IsCycle bs ns → IsCycle cs (map to ns)
    cycle_to ns cycle =
        let several = cycle.several in
        record {
          several = omega (arith, length-map ns to);
          distinct = λ i j d less inside same.
              let low : j < length ns = omega (arith, length-map ns to) in
              let first = get_or-map to ns i d d (omega arith) in
              let second = get_or-map to ns j d d low in
              cycle.distinct i j d less low (one_to_one to rises (get_or ns i d) (get_or ns j d) (sym first ∙ same ∙ second));
          least_first = All-map (λ n. slice_index (map to ns) 0 ≤ n) to ns (λ k d l.
              let zero_is : get_or (map to ns) 0 0 ≡ to (get_or ns 0 0) = get_or-map to ns 0 0 0 (omega arith) in
              let low = no_greater (get_or ns 0 0) (get_or ns k d) (cycle.least_first k d l) in
              omega arith);
          closed = ring_to ns cycle.closed;
        }
