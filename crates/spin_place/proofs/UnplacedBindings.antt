-- Bindings that ask for no place stand in their order where their numbers rise.
use Rattle.std.proofs.Common.{◌≡◌, ℕ, ◌+◌, ◌-◌, ◌<◌, ◌≤◌, Bool, true, false, not, ◌&&◌, ◌||◌, List, [], ◌∷◌, length, get_or, refl, sym, ap, ◌∙◌, inl, inr, arith}
use Rattle.std.specs.Prelude.{IsTrue, ◌==◌}
use Rattle.std.specs.List.{AllPairs, AllWithin, Contains, list_any}
use Rattle.std.proofs.lemmas.Bool.{cases_eq, and_parts, and_left, and_right, not_from_true, eqb-true, eq-eqb, ne_eqb, false≢true}
use Rattle.std.proofs.lemmas.List.{get_or-map, get_or_default, length-map}
use Rattle.std.proofs.lemmas.List.Folds.{list_any_none}
use Rattle.std.proofs.lemmas.List.Sums.{AllPass-from_list_all}
use Rattle.std.proofs.lemmas.List.Sorted.{IsPermutation-refl}
use Rattle.spin_word.specs.Commands.{no_number}
use Rattle.spin_word.specs.declared.command.Place.{Place}
use Rattle.spin_word.specs.declared.command.Place.TheVariants.{Free, First, Last}
use Rattle.spin_place.specs.declared.binding.Binding.{Binding}
use Rattle.spin_place.specs.Unplaced.{is_free, names_none, asks_nothing, AreUnplaced}
use Rattle.spin_place.specs.Orders.{IsLeastOrder}
use Rattle.spin_place.specs.Precedence.{names, is_first, is_last, must_precede, numbers_of, MustPrecede, IsTheOrder}
use Rattle.spin_place.proofs.NumberLists.{AllPairs-head, AllPairs-tail, Contains-cons}
use Rattle.spin_place.proofs.LawfulOrders.{IsLeastOrder-nil, IsLeastOrder-cons}

-- numbers of which none is a binding's name no binding
names-none : (ns : List ℕ) (n : ℕ) → names_none ns ≡ true → names ns n ≡ false
names-none ns n h =
    elim (cases_eq n no_number) [
      | inl e ↦ and_left (not (n == no_number)) (list_any (λ m. m == n) ns) (not_from_true (n == no_number) (eq-eqb n no_number e))
      | inr ne ↦
          and_right (not (n == no_number)) (list_any (λ m. m == n) ns)
          (list_any_none (λ m. m == n) ns (λ k d l. ne_eqb (get_or ns k d) n (λ same. ne (sym same ∙ eqb-true (get_or ns k d) no_number (AllPass-from_list_all (λ m. m == no_number) ns h k d l)))))
    ]

free-first : (p : Place) → is_free p ≡ true → is_first p ≡ false
free-first Free h = refl
free-first First h = absurd (false≢true h)
free-first Last h = absurd (false≢true h)

free-last : (p : Place) → is_free p ≡ true → is_last p ≡ false
free-last Free h = refl
free-last First h = absurd (false≢true h)
free-last Last h = absurd (false≢true h)

none_of_four : (n f f' l l' x y : Bool) → f ≡ false → l ≡ false → x ≡ false → y ≡ false → (n && (f && f' || l && l' || x || y)) ≡ true → ⊥
none_of_four n f f' l l' x y e g i j h =
    let p = (and_parts n (f && f' || l && l' || x || y) h).1 in
    let q = rw (e, g, i, j) at p in
    false≢true q

-- of two that ask for no place, none must precede the other
pub apart : (b c : Binding) → asks_nothing b ≡ true → asks_nothing c ≡ true → IsTrue (must_precede b c) → ⊥
apart b c h g t =
    let first = and_parts (is_free b.place && names_none b.before) (names_none b.after) h in
    let second = and_parts (is_free c.place && names_none c.before) (names_none c.after) g in
    let free_b = and_parts (is_free b.place) (names_none b.before) first.0 in
    let free_c = and_parts (is_free c.place) (names_none c.before) second.0 in
    none_of_four (not (b.number == c.number)) (is_first b.place) (not (is_first c.place)) (is_last c.place) (not (is_last b.place)) (names b.before c.number) (names c.after b.number)
    (free-first b.place free_b.0) (free-last c.place free_c.0) (names-none b.before c.number free_b.1) (names-none c.after b.number second.1) t

-- rising numbers of which none must precede another are the least order of themselves
rising_order : (R : ℕ → ℕ → Type 0) → ((m n : ℕ) → R m n → ⊥) → (ns : List ℕ) → AllPairs (λ m n. m < n) ns → IsLeastOrder R ns ns
rising_order R none [] rising = IsLeastOrder-nil R
rising_order R none (n ∷ ns) rising =
    IsLeastOrder-cons R (λ m. none m m) (n ∷ ns) ns ns n (IsPermutation-refl (n ∷ ns)) (λ k d l. none (get_or (n ∷ ns) k d) n) (λ y there ready. least y there)
    (rising_order R none ns (AllPairs-tail (λ a b. a < b) n ns rising))
  where
    least : (y : ℕ) → Contains (n ∷ ns) y → n ≤ y
    least y there =
        elim (Contains-cons y n ns there) [
          | inl e ↦ omega arith
          | inr (k, l, e) ↦
              let more : n < get_or ns k y = AllPairs-head (λ a b. a < b) n ns rising k y l in
              omega arith
        ]

-- so many of the bindings ask for no place, and their numbers rise and are below this one
pub record AreRising (bs : List Binding) (at least : ℕ) : Type 0 where
  pub bare : AllWithin (λ b. asks_nothing b ≡ true) bs 0 at
  pub below : AllWithin (λ b. b.number < least) bs 0 at
  pub rising : (i j : ℕ) (d : Binding) → i < j → j < at → (get_or bs i d).number < (get_or bs j d).number
  pub first : at ≡ 0 → least ≡ 0
  pub last : 0 < at → (d : Binding) → least ≡ (get_or bs (at - 1) d).number + 1

pub AreRising-nil : (bs : List Binding) → AreRising bs 0 0
AreRising-nil bs = record {
  bare = λ k d low high. absurd (omega arith);
  below = λ k d low high. absurd (omega arith);
  rising = λ i j d less high. absurd (omega arith);
  first = λ e. refl;
  last = λ some d. absurd (omega arith);
}

-- one binding more
pub AreRising-more : (bs : List Binding) (at least : ℕ) (b : Binding) → AreRising bs at least → at < length bs → b ≡ get_or bs at b → least ≤ b.number → asks_nothing b ≡ true
    → AreRising bs (at + 1) (b.number + 1)
AreRising-more bs at least b h l is low bare =
    let here : (k : ℕ) (d : Binding) → k ≡ at → get_or bs k d ≡ b = λ k d e. ap (λ n. get_or bs n d) e ∙ get_or_default bs at d b l ∙ sym is in
    record {
      bare = λ k d from to. elim (cases_eq k at) [
        | inl e ↦ ap asks_nothing (here k d e) ∙ bare
        | inr ne ↦ h.bare k d from (omega arith)
      ];
      below = λ k d from to. elim (cases_eq k at) [
        | inl e ↦ omega (arith, ap (λ (x : Binding). x.number) (here k d e))
        | inr ne ↦ omega (arith, h.below k d from (omega arith))
      ];
      rising = λ i j d less to. elim (cases_eq j at) [
        | inl e ↦ omega (arith, ap (λ (x : Binding). x.number) (here j d e), h.below i d (omega arith) (omega arith))
        | inr ne ↦ h.rising i j d less (omega arith)
      ];
      first = λ e. absurd (omega arith);
      last = λ some d. omega (arith, ap (λ (x : Binding). x.number) (here (at + 1 - 1) d (omega arith)));
    }

-- where one's number isn't above that before it, they don't all rise
pub AreRising-stops : (bs : List Binding) (at least : ℕ) (b : Binding) → AreRising bs at least → at < length bs → b ≡ get_or bs at b → b.number < least → AreUnplaced bs → ⊥
AreRising-stops bs at least b h l is low all =
    elim (cases_eq at 0) [
      | inl e ↦ omega (arith, h.first e)
      | inr ne ↦
          let size = length-map bs (λ (x : Binding). x.number) in
          let one = get_or-map (λ (x : Binding). x.number) bs (at - 1) b 0 (omega arith) in
          let two = get_or-map (λ (x : Binding). x.number) bs at b 0 l in
          let less : get_or (numbers_of bs) (at - 1) 0 < get_or (numbers_of bs) at 0 = all.1 (at - 1) at 0 (omega arith) (omega arith) in
          omega (arith, one, two, less, h.last (omega arith) b, ap (λ (x : Binding). x.number) is)
    ]

rising_numbers : (bs : List Binding) → ((i j : ℕ) (d : Binding) → i < j → j < length bs → (get_or bs i d).number < (get_or bs j d).number) → AllPairs (λ m n. m < n) (numbers_of bs)
rising_numbers [] h = λ i j d less l. absurd (omega arith)
rising_numbers (b ∷ bs) h = λ i j d less l.
    let size = length-map (b ∷ bs) (λ (x : Binding). x.number) in
    let one = get_or-map (λ (x : Binding). x.number) (b ∷ bs) i b d (omega arith) in
    let two = get_or-map (λ (x : Binding). x.number) (b ∷ bs) j b d (omega arith) in
    omega (arith, one, two, h i j b less (omega arith))

-- all of them ask for no place, and rise
pub AreUnplaced-from : (bs : List Binding) (at least : ℕ) → AreRising bs at least → at ≡ length bs → AreUnplaced bs
AreUnplaced-from bs at least h all =
    (λ k d l. h.bare k d (omega arith) (omega arith), rising_numbers bs (λ i j d less l. h.rising i j d less (omega arith)))

-- then they stand in their order
pub AreUnplaced-order : (bs : List Binding) → AreUnplaced bs → IsTheOrder bs (numbers_of bs)
AreUnplaced-order bs h =
    rising_order (MustPrecede bs) none (numbers_of bs) h.1
  where
    bare_at : (k : ℕ) (b : Binding) → k < length bs → get_or bs k b ≡ b → asks_nothing b ≡ true
    bare_at k b l e = sym (ap asks_nothing e) ∙ h.0 k b l

    none : (m n : ℕ) → MustPrecede bs m n → ⊥
    none m n (k, b, l, e, (is, (j, c, i, f, (is', t)))) = apart b c (bare_at k b l e) (bare_at j c i f) t
