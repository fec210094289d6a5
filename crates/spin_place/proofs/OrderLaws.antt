-- What the order of bindings obeys: it is one, a removal keeps that there is one, and so does a change of handlers,
-- guards and modes.
use Rattle.std.proofs.Common.{◌≡◌, ℕ, ◌<◌, Bool, not, ◌&&◌, ◌||◌, List, [], ◌∷◌, length, get_or, set, map, refl, sym, ap, subst, ◌∙◌, inl, inr, arith}
use Rattle.std.specs.Prelude.{◌==◌}
use Rattle.std.specs.List.{Contains, remove}
use Rattle.std.specs.List.Sorted.{IsPermutation}
use Rattle.std.proofs.lemmas.List.{get_or-map, get_or_default, length-map, map-set, set-get_or}
use Rattle.std.proofs.lemmas.List.Elements.{All-tail, All-contains_itself}
use Rattle.std.proofs.lemmas.List.Quantifiers.{all_pairs_remove}
use Rattle.std.proofs.lemmas.List.Sorted.{IsPermutation-sym, IsPermutation-trans, IsPermutation-map, IsPermutation-remove, All-permutation, Contains-permutation}
use Rattle.spin_word.specs.declared.command.Place.{Place}
use Rattle.spin_place.specs.declared.binding.Binding.{Binding}
use Rattle.spin_place.specs.Precedence.{names, is_first, is_last, must_precede, numbers_of, MustPrecede, IsLawful, IsTheOrder, HasLawfulOrder, constraints_of}
use Rattle.spin_place.proofs.NumberLists.{to_front, IsPermutation-uncons, Contains-here}
use Rattle.spin_place.proofs.LawfulOrders.{IsLess-one_way}
use Rattle.spin_place.proofs.Precedences.{MustPrecede-more}

-- bindings have at most one order
pub IsTheOrder-unique : (bs : List Binding) (ms ns : List ℕ) → IsTheOrder bs ms → IsTheOrder bs ns → ms ≡ ns
IsTheOrder-unique bs ms ns h g =
    elim (g.1 ms h.0) [
      | inl same ↦ same
      | inr less ↦
          elim (h.1 ns g.0) [
            | inl same ↦ sym same
            | inr other ↦ absurd (IsLess-one_way ns ms less other)
          ]
    ]

-- of bindings with a lawful order, all but one have a lawful order
pub HasLawfulOrder-without : (bs cs : List Binding) (b : Binding) → IsPermutation bs (b ∷ cs) → HasLawfulOrder bs → HasLawfulOrder cs
HasLawfulOrder-without bs cs b front (ns, h) =
    let numbers = IsPermutation-map (λ (c : Binding). c.number) bs (b ∷ cs) front in
    let there = Contains-permutation (b.number ∷ numbers_of cs) ns b.number
    (IsPermutation-trans (b.number ∷ numbers_of cs) (numbers_of bs) ns (IsPermutation-sym (numbers_of bs) (b.number ∷ numbers_of cs) numbers) h.0) (Contains-here b.number (numbers_of cs)) in
    let whole = IsPermutation-trans (b.number ∷ numbers_of cs) (numbers_of bs) (b.number ∷ remove ns there.0) (IsPermutation-sym (numbers_of bs) (b.number ∷ numbers_of cs) numbers)
    (IsPermutation-trans (numbers_of bs) ns (b.number ∷ remove ns there.0) h.0 (to_front ns b.number there)) in
    let inside = All-tail (Contains bs) b cs (All-permutation (Contains bs) bs (b ∷ cs) front (All-contains_itself bs)) in
    let pairs = all_pairs_remove (λ m n. MustPrecede bs n m → ⊥) ns there.0 there.1 h.1 in (
      remove ns there.0,
      (
        IsPermutation-uncons b.number (numbers_of cs) (remove ns there.0) whole,
        λ i j d l m r. pairs i j d l m (MustPrecede-more bs cs inside (get_or (remove ns there.0) j d) (get_or (remove ns there.0) i d) r),
      ),
    )

-- a removal keeps that there is a lawful order
pub HasLawfulOrder-remove : (bs : List Binding) (i : ℕ) (b : Binding) → i < length bs → b ≡ get_or bs i b → HasLawfulOrder bs → HasLawfulOrder (remove bs i)
HasLawfulOrder-remove bs i b l e h = HasLawfulOrder-without bs (remove bs i) b (IsPermutation-remove bs i b l e) h

-- `must_precede` by what it hangs on
goes_before : ℕ × Place × List ℕ × List ℕ → ℕ × Place × List ℕ × List ℕ → Bool
goes_before b c =
    not (b.0 == c.0) && (is_first b.1 && not (is_first c.1) || is_last c.1 && not (is_last b.1) || names b.2 c.0 || names c.3 b.0)

must_precede-constraints : (b c : Binding) → must_precede b c ≡ goes_before (constraints_of b) (constraints_of c)
unfolding goes_before
must_precede-constraints b c = refl

-- the binding at a place in another list with the same constraints
same_at : (bs cs : List Binding) (k : ℕ) (b : Binding) → map constraints_of bs ≡ map constraints_of cs → k < length bs → get_or bs k b ≡ b
    → (k < length cs) × (constraints_of b ≡ constraints_of (get_or cs k b))
same_at bs cs k b e l is =
    let size : length bs ≡ length cs = sym (length-map bs constraints_of) ∙ ap length e ∙ length-map cs constraints_of in
    let high : k < length cs = omega arith in (
      high,
      ap constraints_of (sym is) ∙ sym (get_or-map constraints_of bs k b (constraints_of b) l)
          ∙ ap (λ (xs : List (ℕ × Place × List ℕ × List ℕ)). get_or xs k (constraints_of b)) e ∙ get_or-map constraints_of cs k b (constraints_of b) high,
    )

MustPrecede-same : (bs cs : List Binding) → map constraints_of bs ≡ map constraints_of cs → (m n : ℕ) → MustPrecede bs m n → MustPrecede cs m n
MustPrecede-same bs cs e m n (k, b, l, is, (number, (j, c, i, is', (number', h)))) =
    let first = same_at bs cs k b e l is in
    let second = same_at bs cs j c e i is' in
    let b' = get_or cs k b in
    let c' = get_or cs j c in
    let same : must_precede b' c' ≡ must_precede b c = must_precede-constraints b' c' ∙ sym (ap (λ (t : ℕ × Place × List ℕ × List ℕ). goes_before t (constraints_of c')) first.1)
    ∙ sym (ap (λ (t : ℕ × Place × List ℕ × List ℕ). goes_before (constraints_of b) t) second.1) ∙ sym (must_precede-constraints b c) in (
      k,
      b',
      first.0,
      get_or_default cs k b' b first.0,
      (
        ap (λ (t : ℕ × Place × List ℕ × List ℕ). t.0) (sym first.1)
            ∙ number,
        (j, c', second.0, get_or_default cs j c' c second.0, (ap (λ (t : ℕ × Place × List ℕ × List ℕ). t.0) (sym second.1) ∙ number', same ∙ h)),
      ),
    )

numbers-constraints : (bs : List Binding) → numbers_of bs ≡ map (λ (t : ℕ × Place × List ℕ × List ℕ). t.0) (map constraints_of bs)
numbers-constraints [] = refl
numbers-constraints (b ∷ bs) = ap (λ ns. b.number ∷ ns) (numbers-constraints bs)

pub numbers_of-same : (bs cs : List Binding) → map constraints_of bs ≡ map constraints_of cs → numbers_of bs ≡ numbers_of cs
numbers_of-same bs cs e =
    numbers-constraints bs ∙ ap (λ (xs : List (ℕ × Place × List ℕ × List ℕ)). map (λ (t : ℕ × Place × List ℕ × List ℕ). t.0) xs) e ∙ sym (numbers-constraints cs)

-- a list of bindings that differs in no constraint has the same lawful orders
pub IsLawful-same : (bs cs : List Binding) → map constraints_of bs ≡ map constraints_of cs → (ns : List ℕ) → IsLawful bs ns → IsLawful cs ns
IsLawful-same bs cs e ns h =
    (subst (λ ms. IsPermutation ms ns) (numbers_of-same bs cs e) h.0, λ i j d l m r. h.1 i j d l m (MustPrecede-same cs bs (sym e) (get_or ns j d) (get_or ns i d) r))

pub HasLawfulOrder-same : (bs cs : List Binding) → map constraints_of bs ≡ map constraints_of cs → HasLawfulOrder bs → HasLawfulOrder cs
HasLawfulOrder-same bs cs e (ns, h) = (ns, IsLawful-same bs cs e ns h)

-- a binding with the same constraints in the place of another keeps that there is a lawful order
pub HasLawfulOrder-set : (bs : List Binding) (i : ℕ) (b : Binding) → constraints_of (get_or bs i b) ≡ constraints_of b → HasLawfulOrder bs → HasLawfulOrder (set bs i b)
HasLawfulOrder-set bs i b e h =
    let same : map constraints_of (set bs i b) ≡ map constraints_of bs = map-set constraints_of bs i b ∙ ap (λ (t : ℕ × Place × List ℕ × List ℕ). set (map constraints_of bs) i t) (sym e)
    ∙ sym (map-set constraints_of bs i (get_or bs i b)) ∙ ap (λ (xs : List Binding). map constraints_of xs) (set-get_or bs i b) in
    HasLawfulOrder-same bs (set bs i b) (sym same) h
