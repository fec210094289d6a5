-- Lists of candidates of which each waits for another number of links than before.
use Rattle.std.proofs.Common.{◌≡◌, ℕ, ◌+◌, ◌-◌, ◌<◌, ◌≤◌, Bool, true, false, cond, List, [], ◌∷◌, length, get_or, set, map, take, refl, sym, ap, subst, ◌∙◌, inl, inr, arith, count_by, Option, Some, None, MatchOption}
use Rattle.std.specs.Option.{is_some}
use Rattle.std.specs.Prelude.{◌==◌}
use Rattle.std.specs.List.{All, Contains, HoldsAt}
use Rattle.std.specs.List.Sorted.{IsNonDecreasingBy}
use Rattle.std.proofs.lemmas.Bool.{cases_eq, cases_lt, cases_order, eq-eqb, ne_eqb, true≢false, false≢true}
use Rattle.std.proofs.lemmas.List.{get_or-map, get_or_default, length-map, length-take, length-set, get_or-set_same, get_or-set_other, ext_get_or}
use Rattle.std.proofs.lemmas.List.Elements.{All-head, All-tail, All-map}
use Rattle.std.proofs.lemmas.List.Sums.{sum_by_more, sum_by_more_le}
use Rattle.spin_place.specs.declared.binding.Binding.{Binding}
use Rattle.spin_place.specs.declared.candidate.Candidate.{Candidate}
use Rattle.spin_place.specs.declared.links.Link.{Link}
use Rattle.spin_place.specs.Inner.Links.{times_led, times_held}
use Rattle.spin_place.specs.Inner.Candidates.{bindings_of, numbers_left, held, released, AreCounted, AreRising}
use Rattle.spin_place.specs.Orders.{AreDistinct}
use Rattle.spin_place.specs.Precedence.{numbers_of}
use Rattle.spin_place.proofs.NumberLists.{one_if, times, found, times_from_Contains}
use Rattle.spin_place.proofs.Rings.{times-distinct}
use Rattle.spin_place.proofs.LinkCounts.{times_held-more, times_held-le}
use Rattle.spin_place.proofs.PrecedenceWalks.{number_at}

-- candidates that keep their bindings
pub bindings-kept : (f : Candidate → Candidate) → ((c : Candidate) → (f c).binding.now ≡ c.binding.now) → (cs : List Candidate) → bindings_of (map f cs) ≡ bindings_of cs
bindings-kept f keep [] = refl
bindings-kept f keep (c ∷ cs) =
    ap (λ (b : Binding). b ∷ bindings_of (map f cs)) (keep c) ∙ ap (λ (bs : List Binding). c.binding.now ∷ bs) (bindings-kept f keep cs)

pub numbers-kept : (f : Candidate → Candidate) → ((c : Candidate) → (f c).binding.now ≡ c.binding.now) → (cs : List Candidate) → numbers_left (map f cs) ≡ numbers_left cs
numbers-kept f keep cs = ap (λ (bs : List Binding). numbers_of bs) (bindings-kept f keep cs)

pub number_of_at : (cs : List Candidate) (k : ℕ) (d : Candidate) → k < length cs → get_or (numbers_left cs) k 0 ≡ (get_or cs k d).binding.now.number
number_of_at cs k d l = number_at cs k (get_or cs k d) l (get_or_default cs k d (get_or cs k d) l)

pub length-numbers : (cs : List Candidate) → length (numbers_left cs) ≡ length cs
length-numbers cs = length-map (bindings_of cs) (λ (b : Binding). b.number) ∙ length-map cs (λ (c : Candidate). c.binding.now)

-- two candidates have different numbers
pub apart_at : (cs : List Candidate) → AreRising cs → (j k : ℕ) (d : Candidate) → j < length cs → k < length cs → (j ≡ k → ⊥)
    → (get_or cs j d).binding.now.number ≡ (get_or cs k d).binding.now.number → ⊥
apart_at cs rising j k d l m ne e =
    let one = number_of_at cs j d l in
    let two = number_of_at cs k d m in
    elim (cases_order j k) [
      | inl same ↦ ne same
      | inr (inl less) ↦ omega (arith, one, two, e, rising j k 0 less (omega (arith, m, length-numbers cs)))
      | inr (inr more) ↦ omega (arith, one, two, e, rising k j 0 more (omega (arith, l, length-numbers cs)))
    ]

map_agree : (f h : Candidate → Candidate) (cs : List Candidate) → All (λ c. f c ≡ h c) cs → map f cs ≡ map h cs
map_agree f h [] same = refl
map_agree f h (c ∷ cs) same =
    ap (λ (x : Candidate). x ∷ map f cs) (All-head (λ (x : Candidate). f x ≡ h x) c cs same)
    ∙ ap (λ (xs : List Candidate). h c ∷ xs) (map_agree f h cs (All-tail (λ (x : Candidate). f x ≡ h x) c cs same))

-- two functions that differ at one number alone
module _ (f h : Candidate → Candidate) (keep : (c : Candidate) → (f c).binding.now ≡ c.binding.now) (cs rest : List Candidate) (rising : AreRising cs) (is : rest ≡ map f cs) (n : ℕ)
    (other : (c : Candidate) → (c.binding.now.number ≡ n → ⊥) → f c ≡ h c) where
  set_one : (at : ℕ) (z : Candidate) → at < length cs → ((d : Candidate) → (get_or cs at d).binding.now.number ≡ n) → ((d : Candidate) → z ≡ h (get_or cs at d)) → set (map f cs) at z ≡ map h cs
  set_one at z lt here new =
      ext_get_or z (set (map f cs) at z) (map h cs) (length-set (map f cs) at z ∙ length-map cs f ∙ sym (length-map cs h)) (λ k l.
      let inside : k < length cs = omega (arith, l, length-set (map f cs) at z, length-map cs f) in
      let high : at < length (map f cs) = omega (arith, lt, length-map cs f) in
      let right : get_or (map h cs) k z ≡ h (get_or cs k z) = get_or-map h cs k z z inside in
      elim (cases_eq k at) [
        | inl e ↦
            ap (λ j. get_or (set (map f cs) at z) j z) e ∙ get_or-set_same (map f cs) at z z high ∙ new z
            ∙ ap (λ j. h (get_or cs j z)) (sym e) ∙ sym right
        | inr ne ↦
            get_or-set_other (map f cs) at k z z ne ∙ get_or-map f cs k z z inside
            ∙ other (get_or cs k z) (λ e. apart_at cs rising k at z inside lt ne (e ∙ sym (here z))) ∙ sym right
      ])

  -- the candidate of the number is written
  pub found_step : (at : ℕ) (y z : Candidate) → at < length rest → HoldsAt (λ c. c.binding.now.number ≡ n) rest at → y ≡ get_or rest at y
      → ((c : Candidate) → c.binding.now.number ≡ n → y ≡ f c → z ≡ h c) → set rest at z ≡ map h cs
  found_step at y z lt here item new =
      let inside : at < length cs = omega (arith, lt, ap length is, length-map cs f) in
      let is_f : (d : Candidate) → y ≡ f (get_or cs at d) = λ d. item ∙ ap (λ (xs : List Candidate). get_or xs at y) is ∙ get_or-map f cs at d y inside in
      let number : (d : Candidate) → (get_or cs at d).binding.now.number ≡ n =
      λ d. ap (λ (b : Binding). b.number) (sym (keep (get_or cs at d))) ∙ ap (λ (c : Candidate). c.binding.now.number) (sym (is_f d)) ∙ ap (λ (c : Candidate). c.binding.now.number) item ∙ here y in
      ap (λ (xs : List Candidate). set xs at z) is ∙ set_one at z inside number (λ d. new (get_or cs at d) (number d) (is_f d))

  -- there is no candidate of the number
  pub absent_step : (Contains (numbers_left rest) n → ⊥) → rest ≡ map h cs
  absent_step none =
      is ∙ map_agree f h cs (λ k d l. other (get_or cs k d) (λ e.
      let same = ap (λ (xs : List Candidate). numbers_left xs) is ∙ numbers-kept f keep cs in
      let at : get_or (numbers_left cs) k 0 ≡ n = number_of_at cs k d l ∙ e in
      let inside : k < length (numbers_left cs) = omega (arith, l, length-numbers cs) in
      none (subst (λ ns. Contains ns n) (sym same) (k, inside, get_or_default (numbers_left cs) k n 0 inside ∙ at))))

-- the numbers still rise
pub rising-kept : (f : Candidate → Candidate) → ((c : Candidate) → (f c).binding.now ≡ c.binding.now) → (cs rest : List Candidate) → rest ≡ map f cs → AreRising cs → AreRising rest
rising-kept f keep cs rest is rising i j d l m =
    let same : numbers_left rest ≡ numbers_left cs = ap (λ (xs : List Candidate). numbers_left xs) is ∙ numbers-kept f keep cs in
    let one : get_or (numbers_left rest) i d ≡ get_or (numbers_left cs) i d = ap (λ ns. get_or ns i d) same in
    let two : get_or (numbers_left rest) j d ≡ get_or (numbers_left cs) j d = ap (λ ns. get_or ns j d) same in
    omega (arith, one, two, rising i j d l (omega (arith, m, ap length same)))

-- with one link more, each number but that to which it leads is held as before
pub held_other : (ms : List ℕ) (links : List Link) (i : ℕ) (l : Link) (c : Candidate) → i < length links → l ≡ get_or links i l
    → (c.binding.now.number ≡ l.later → ⊥) → held ms (take i links) c ≡ held ms (take (i + 1) links) c
held_other ms links i l c lt is ne =
    let none : cond (l.later == c.binding.now.number) (count_by (λ m. m == l.earlier) ms) 0 ≡ 0 =
    ap (λ b. cond b (count_by (λ m. m == l.earlier) ms) 0) (ne_eqb l.later c.binding.now.number (λ e. ne (sym e))) in
    let same : times_held ms (take i links) c.binding.now.number ≡ times_held ms (take (i + 1) links) c.binding.now.number =
    omega (arith, none, times_held-more ms links i l c.binding.now.number lt is) in
    ap (λ (w : ℕ). record c { waits = w }) same

-- and that one by one link more, if it leads from one of them
pub held_more : (ms : List ℕ) (links : List Link) (i : ℕ) (l : Link) (c : Candidate) → i < length links → l ≡ get_or links i l
    → c.binding.now.number ≡ l.later → times_held ms (take (i + 1) links) c.binding.now.number ≡ times_held ms (take i links) c.binding.now.number + count_by (λ m. m == l.earlier) ms
held_more ms links i l c lt is e =
    let all : cond (l.later == c.binding.now.number) (count_by (λ m. m == l.earlier) ms) 0 ≡ count_by (λ m. m == l.earlier) ms =
    ap (λ b. cond b (count_by (λ m. m == l.earlier) ms) 0) (eq-eqb l.later c.binding.now.number (sym e)) in
    omega (arith, all, times_held-more ms links i l c.binding.now.number lt is)

-- where it leads from none of them, all are held as before
pub held_same : (ms : List ℕ) (links : List Link) (i : ℕ) (l : Link) (cs : List Candidate) → i < length links → l ≡ get_or links i l
    → count_by (λ m. m == l.earlier) ms ≡ 0 → map (held ms (take i links)) cs ≡ map (held ms (take (i + 1) links)) cs
held_same ms links i l cs lt is none =
    map_agree (held ms (take i links)) (held ms (take (i + 1) links)) cs (λ k d m.
    let c = get_or cs k d in
    let same : times_held ms (take i links) c.binding.now.number ≡ times_held ms (take (i + 1) links) c.binding.now.number =
    omega (arith, none, times_held-more ms links i l c.binding.now.number lt is, zero_or (l.later == c.binding.now.number) (count_by (λ m. m == l.earlier) ms) none) in
    ap (λ (w : ℕ). record c { waits = w }) same)
  where
    zero_or : (b : Bool) (t : ℕ) → t ≡ 0 → cond b t 0 ≡ 0
    zero_or true t e = e
    zero_or false t e = refl

-- none is held yet
pub held_none : (ms : List ℕ) (cs : List Candidate) → All (λ c. c.waits ≡ 0) cs → cs ≡ map (held ms []) cs
held_none ms [] h = refl
held_none ms (c ∷ cs) h =
    ap (λ (w : ℕ). record c { waits = w } ∷ cs) (All-head (λ (x : Candidate). x.waits ≡ 0) c cs h)
    ∙ ap (λ (xs : List Candidate). record c { waits = 0 } ∷ xs) (held_none ms cs (All-tail (λ (x : Candidate). x.waits ≡ 0) c cs h))

pub led-more : (links : List Link) (i : ℕ) (l : Link) (n : ℕ) → i < length links → l ≡ get_or links i l → times_led (take (i + 1) links) n ≡ times_led (take i links) n + one_if (l.later == n)
led-more links i l n lt is =
    sum_by_more (λ (x : Link). one_if (x.later == n)) links i l lt ∙ ap (λ (x : Link). times_led (take i links) n + one_if (x.later == n)) (sym is)

pub led-le : (links : List Link) (i : ℕ) (l : Link) (n : ℕ) → i < length links → l ≡ get_or links i l → l.later ≡ n → times_led (take i links) n + 1 ≤ times_led links n
led-le links i l n lt is e =
    let one : one_if ((get_or links i l).later == n) ≡ 1 = ap (λ (x : Link). one_if (x.later == n)) (sym is) ∙ ap one_if (eq-eqb l.later n e) in
    omega (arith, one, sum_by_more_le (λ (x : Link). one_if (x.later == n)) links i l lt)

-- with one link more, each candidate but that to which it leads is released as before
pub released_other : (links : List Link) (i : ℕ) (l : Link) (c : Candidate) → i < length links → l ≡ get_or links i l
    → (c.binding.now.number ≡ l.later → ⊥) → released (take i links) c ≡ released (take (i + 1) links) c
released_other links i l c lt is ne =
    let none : one_if (l.later == c.binding.now.number) ≡ 0 = ap one_if (ne_eqb l.later c.binding.now.number (λ e. ne (sym e))) in
    let same : c.waits - times_led (take i links) c.binding.now.number ≡ c.waits - times_led (take (i + 1) links) c.binding.now.number =
    omega (arith, none, led-more links i l c.binding.now.number lt is) in
    ap (λ (w : ℕ). record c { waits = w }) same

pub released_more : (links : List Link) (i : ℕ) (l : Link) (c : Candidate) → i < length links → l ≡ get_or links i l
    → c.binding.now.number ≡ l.later → (c.waits - times_led (take i links) c.binding.now.number) - 1 ≡ c.waits - times_led (take (i + 1) links) c.binding.now.number
released_more links i l c lt is e =
    let one : one_if (l.later == c.binding.now.number) ≡ 1 = ap one_if (eq-eqb l.later c.binding.now.number (sym e)) in
    omega (arith, one, led-more links i l c.binding.now.number lt is)

-- none is released yet
pub released_none : (cs : List Candidate) → cs ≡ map (released []) cs
released_none [] = refl
released_none (c ∷ cs) =
    let same : c.waits ≡ c.waits - 0 = omega arith in
    ap (λ (w : ℕ). record c { waits = w } ∷ cs) same ∙ ap (λ (xs : List Candidate). record c { waits = c.waits - 0 } ∷ xs) (released_none cs)

some_of : (cs : List Candidate) (k : ℕ) → k < length cs → Candidate
some_of [] k l = absurd (omega arith)
some_of (c ∷ cs) k l = c

-- numbers that are distinct and don't fall rise
pub rising_from : (cs : List Candidate) → IsNonDecreasingBy (λ (c : Candidate). c.binding.now.number) cs → AreDistinct (numbers_left cs) → AreRising cs
rising_from cs sorted distinct i j d less l =
    let inside : j < length cs = omega (arith, l, length-numbers cs) in
    let x = some_of cs j inside in
    let one = number_of_at cs i x (omega arith) in
    let two = number_of_at cs j x inside in
    let one' = get_or_default (numbers_left cs) i d 0 (omega arith) in
    let two' = get_or_default (numbers_left cs) j d 0 l in
    elim (cases_eq (get_or (numbers_left cs) i d) (get_or (numbers_left cs) j d)) [
      | inl e ↦ absurd (distinct i j d less l e)
      | inr ne ↦ omega (arith, sorted i j x (omega arith) inside, one, two, one', two')
    ]

distinct_from : (cs : List Candidate) → AreRising cs → AreDistinct (numbers_left cs)
distinct_from cs rising i j d less l e = let low = rising i j d less l in omega (arith, low, e)

-- what a search for a number found
pub is_present : (cs : List Candidate) (n : ℕ) (o : Option ℕ) → MatchOption o (Contains (numbers_left cs) n → ⊥) (λ at. (at < length cs) × HoldsAt (λ c. c.binding.now.number ≡ n) cs at)
    → is_some o ≡ true → Contains (numbers_left cs) n
is_present cs n None h e = absurd (false≢true e)
is_present cs n (Some at) h e =
    let inside : at < length (numbers_left cs) = omega (arith, h.0, length-numbers cs) in
    let d = some_of cs at h.0 in
    (at, inside, get_or_default (numbers_left cs) at n 0 inside ∙ number_of_at cs at d h.0 ∙ h.1 d)

pub is_absent : (cs : List Candidate) (n : ℕ) (o : Option ℕ) → MatchOption o (Contains (numbers_left cs) n → ⊥) (λ at. (at < length cs) × HoldsAt (λ c. c.binding.now.number ≡ n) cs at)
    → is_some o ≡ false → Contains (numbers_left cs) n → ⊥
is_absent cs n None h e = h
is_absent cs n (Some at) h e = absurd (true≢false e)

module _ (cs rest : List Candidate) (links : List Link) (i : ℕ) (d : Link) (rising : AreRising cs) (is : rest ≡ map (held (numbers_left cs) (take i links)) cs)
    (lt : i < length links) where
  same_numbers : numbers_left rest ≡ numbers_left cs
  same_numbers = ap (λ (xs : List Candidate). numbers_left xs) is ∙ numbers-kept (held (numbers_left cs) (take i links)) (λ c. refl) cs

  -- the link leads from none that is left
  pub hold_skipped : (Contains (numbers_left rest) (get_or links i d).earlier → ⊥) → rest ≡ map (held (numbers_left cs) (take (i + 1) links)) cs
  hold_skipped none =
      let zero_times : times (get_or links i d).earlier (numbers_left cs) ≡ 0 = elim (cases_lt 0 (times (get_or links i d).earlier (numbers_left cs))) [
        | inl some ↦ absurd (none (subst (λ ns. Contains ns (get_or links i d).earlier) (sym same_numbers) (found (get_or links i d).earlier (numbers_left cs) some)))
        | inr few ↦ omega arith
      ] in
      is ∙ held_same (numbers_left cs) links i (get_or links i d) cs lt (get_or_default links i d (get_or links i d) lt) zero_times

  -- or to none
  pub hold_absent : (Contains (numbers_left rest) (get_or links i d).later → ⊥) → rest ≡ map (held (numbers_left cs) (take (i + 1) links)) cs
  hold_absent none =
      absent_step (held (numbers_left cs) (take i links)) (held (numbers_left cs) (take (i + 1) links)) (λ c. refl) cs rest rising is (get_or links i d).later
      (λ c ne. held_other (numbers_left cs) links i (get_or links i d) c lt (get_or_default links i d (get_or links i d) lt) ne) none

  -- the candidate to which it leads waits for one more
  pub hold_found : (at : ℕ) (y z : Candidate) → Contains (numbers_left rest) (get_or links i d).earlier → at < length rest → HoldsAt (λ c. c.binding.now.number ≡ (get_or links i d).later) rest at → y ≡ get_or rest at y
      → z ≡ record y { waits = y.waits + 1 } → set rest at z ≡ map (held (numbers_left cs) (take (i + 1) links)) cs
  hold_found at y z there low here item more =
      let once : times (get_or links i d).earlier (numbers_left cs) ≡ 1 =
      omega (arith, times-distinct (numbers_left cs) (distinct_from cs rising) (get_or links i d).earlier, times_from_Contains (get_or links i d).earlier (numbers_left cs) (subst (λ ns. Contains ns (get_or links i d).earlier) same_numbers there)) in
      found_step (held (numbers_left cs) (take i links)) (held (numbers_left cs) (take (i + 1) links)) (λ c. refl) cs rest rising is (get_or links i d).later
      (λ c ne. held_other (numbers_left cs) links i (get_or links i d) c lt (get_or_default links i d (get_or links i d) lt) ne) at y z low here item (λ c e same.
      let one : times_held (numbers_left cs) (take i links) c.binding.now.number + 1 ≡ times_held (numbers_left cs) (take (i + 1) links) c.binding.now.number =
      omega (arith, once, held_more (numbers_left cs) links i (get_or links i d) c lt (get_or_default links i d (get_or links i d) lt) e) in
      more ∙ ap (λ (v : Candidate). record v { waits = v.waits + 1 }) same ∙ ap (λ (w : ℕ). record c { waits = w }) one)

  pub hold_written : (at : ℕ) (x y : Candidate) → Contains (numbers_left rest) (get_or links i d).earlier → at < length rest → HoldsAt (λ c. c.binding.now.number ≡ (get_or links i d).later) rest at
      → set rest at record (get_or rest at y) { waits = (get_or rest at x).waits + 1 } ≡ map (held (numbers_left cs) (take (i + 1) links)) cs
  hold_written at x y there low here =
      hold_found at (get_or rest at x) record (get_or rest at y) { waits = (get_or rest at x).waits + 1 } there low here (get_or_default rest at x (get_or rest at x) low)
      (ap (λ (v : Candidate). record v { waits = (get_or rest at x).waits + 1 }) (get_or_default rest at y x low))

-- none waits for more links than there are
pub hold_fits : (cs rest : List Candidate) (links : List Link) (i : ℕ) → AreRising cs → rest ≡ map (held (numbers_left cs) (take i links)) cs
    → i < length links → (at : ℕ) (y : Candidate) → at < length rest → y ≡ get_or rest at y → y.waits ≤ i
hold_fits cs rest links i rising is lt at y low item =
    let inside : at < length cs = omega (arith, low, ap length is, length-map cs (held (numbers_left cs) (take i links))) in
    let value : y ≡ held (numbers_left cs) (take i links) (get_or cs at y) =
    item ∙ ap (λ (xs : List Candidate). get_or xs at y) is ∙ get_or-map (held (numbers_left cs) (take i links)) cs at y y inside in
    let waits : y.waits ≡ times_held (numbers_left cs) (take i links) (get_or cs at y).binding.now.number = ap (λ (c : Candidate). c.waits) value in
    omega (arith, waits, times_held-le (numbers_left cs) (take i links) (get_or cs at y).binding.now.number (distinct_from cs rising), length-take i links)

module _ (cs rest : List Candidate) (links : List Link) (i : ℕ) (d : Link) (rising : AreRising cs) (is : rest ≡ map (released (take i links)) cs)
    (lt : i < length links) where
  pub release_absent : (Contains (numbers_left rest) (get_or links i d).later → ⊥) → rest ≡ map (released (take (i + 1) links)) cs
  release_absent none =
      absent_step (released (take i links)) (released (take (i + 1) links)) (λ c. refl) cs rest rising is (get_or links i d).later (λ c ne. released_other links i (get_or links i d) c lt (get_or_default links i d (get_or links i d) lt) ne) none

  pub release_found : (at : ℕ) (y z : Candidate) → at < length rest → HoldsAt (λ c. c.binding.now.number ≡ (get_or links i d).later) rest at → y ≡ get_or rest at y
      → z ≡ record y { waits = y.waits - 1 } → set rest at z ≡ map (released (take (i + 1) links)) cs
  release_found at y z low here item less =
      found_step (released (take i links)) (released (take (i + 1) links)) (λ c. refl) cs rest rising is (get_or links i d).later
      (λ c ne. released_other links i (get_or links i d) c lt (get_or_default links i d (get_or links i d) lt) ne) at y z low here item (λ c e same.
      less ∙ ap (λ (v : Candidate). record v { waits = v.waits - 1 }) same ∙ ap (λ (w : ℕ). record c { waits = w }) (released_more links i (get_or links i d) c lt (get_or_default links i d (get_or links i d) lt) e))

  pub release_written : (at : ℕ) (x y : Candidate) → at < length rest → HoldsAt (λ c. c.binding.now.number ≡ (get_or links i d).later) rest at
      → set rest at record (get_or rest at y) { waits = (get_or rest at x).waits - 1 } ≡ map (released (take (i + 1) links)) cs
  release_written at x y low here =
      release_found at (get_or rest at x) record (get_or rest at y) { waits = (get_or rest at x).waits - 1 } low here (get_or_default rest at x (get_or rest at x) low)
      (ap (λ (v : Candidate). record v { waits = (get_or rest at x).waits - 1 }) (get_or_default rest at y x low))

  -- the candidate to which it leads waits for it
  pub release_fits : (at : ℕ) (y : Candidate) → All (λ c. times_led links c.binding.now.number ≤ c.waits) cs → at < length rest
      → HoldsAt (λ c. c.binding.now.number ≡ (get_or links i d).later) rest at → y ≡ get_or rest at y → 1 ≤ y.waits
  release_fits at y waits low here item =
      let inside : at < length cs = omega (arith, low, ap length is, length-map cs (released (take i links))) in
      let x = get_or cs at y in
      let value : y ≡ released (take i links) x =
      item ∙ ap (λ (xs : List Candidate). get_or xs at y) is ∙ get_or-map (released (take i links)) cs at y y inside in
      let left : y.waits ≡ x.waits - times_led (take i links) x.binding.now.number = ap (λ (c : Candidate). c.waits) value in
      let number : (get_or links i d).later ≡ x.binding.now.number = sym (here y) ∙ ap (λ (c : Candidate). c.binding.now.number) (sym item) ∙ ap (λ (c : Candidate). c.binding.now.number) value in
      omega (arith, left, waits at y inside, led-le links i (get_or links i d) x.binding.now.number lt (get_or_default links i d (get_or links i d) lt) number)

-- held by all links, they are counted
pub counted_held : (links : List Link) (cs rest : List Candidate) → rest ≡ map (held (numbers_left cs) links) cs → AreCounted links rest
counted_held links cs rest is =
    let counted : AreCounted links (map (held (numbers_left cs) links) cs) =
    All-map (λ (c : Candidate). c.waits ≡ times_held (numbers_left (map (held (numbers_left cs) links) cs)) links c.binding.now.number) (held (numbers_left cs) links) cs (λ k d l.
    ap (λ ns. times_held ns links (get_or cs k d).binding.now.number) (sym (numbers-kept (held (numbers_left cs) links) (λ c. refl) cs))) in
    subst (λ (xs : List Candidate). AreCounted links xs) (sym is) counted
