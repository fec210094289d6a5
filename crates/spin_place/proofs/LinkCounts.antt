-- Links between numbers, and how many of them there are.
use Rattle.std.proofs.Common.{◌≡◌, ℕ, zero, suc, ◌+◌, ◌<◌, ◌≤◌, Bool, true, false, cond, eqb, ◌&&◌, List, [], ◌∷◌, ◌++◌, length, get_or, take, drop, refl, sym, ap, ◌∙◌, inl, inr, arith, count_by}
use Rattle.std.specs.Prelude.{◌==◌}
use Rattle.std.specs.List.{All, Contains}
use Rattle.std.specs.List.Sorted.{IsPermutation, IsNonDecreasingBy}
use Rattle.std.proofs.lemmas.Bool.{and_left, cases_lt, eq-eqb, ne_eqb}
use Rattle.std.proofs.lemmas.List.{get_or-take, get_or-drop, length-take, length-drop}
use Rattle.std.proofs.lemmas.List.Elements.{All-head, All-tail}
use Rattle.std.proofs.lemmas.List.Sums.{sum_by-cons, sum_by_push, sum_by_more, sum_by-take-drop, sum_by-le}
use Rattle.std.proofs.lemmas.List.Sorted.{sum_by-IsPermutation}
use Rattle.spin_place.specs.declared.links.Link.{Link}
use Rattle.spin_place.specs.Inner.Links.{times_linked, times_led, times_held}
use Rattle.spin_place.specs.Orders.{AreDistinct}
use Rattle.spin_place.proofs.NumberLists.{one_if, times, times-cons, count_by-zero}
use Rattle.spin_place.proofs.Rings.{times-distinct}

-- two tests that agree on a list pass as many of it
pub count_by-agree : {X : Type 0} (p q : X → Bool) (xs : List X) → All (λ x. p x ≡ q x) xs → count_by p xs ≡ count_by q xs
count_by-agree p q [] h = refl
count_by-agree p q (x ∷ xs) h =
    omega (arith, sum_by-cons (λ y. cond (p y) 1 0) x xs, sum_by-cons (λ y. cond (q y) 1 0) x xs, ap one_if (All-head (λ y. p y ≡ q y) x xs h), count_by-agree p q xs (All-tail (λ y. p y ≡ q y) x xs h))

-- of a list that is cut in three, only the middle passes
pub count_by-middle : {X : Type 0} (p : X → Bool) (xs : List X) (start size : ℕ) → start ≤ length xs
    → ((k : ℕ) (d : X) → k < length xs → k < start → p (get_or xs k d) ≡ false)
    → ((k : ℕ) (d : X) → k < length (drop start xs) → size ≤ k → p (get_or (drop start xs) k d) ≡ false)
    → count_by p xs ≡ count_by p (take size (drop start xs))
count_by-middle p xs start size le low high =
    let cut = sum_by-take-drop (λ x. cond (p x) 1 0) xs start in
    let cut' = sum_by-take-drop (λ x. cond (p x) 1 0) (drop start xs) size in
    let none = count_by-zero p (take start xs) (λ k d l.
    let inside : k < start = omega (arith, length-take start xs, l) in
    ap p (get_or-take start xs k d inside) ∙ low k d (omega arith) inside) in
    let none' = count_by-zero p (drop size (drop start xs)) (λ k d l.
    ap p (get_or-drop size (drop start xs) k d) ∙ high (size + k) d (omega (arith, l, length-drop size (drop start xs))) (omega arith)) in
    omega (arith, cut, cut', none, none')

-- where those before the number end, the links from it begin, and they end where those behind it begin
pub links_between : (links : List Link) (number start size n : ℕ) → start ≤ length links → size ≤ length (drop start links)
    → ((k : ℕ) (d : Link) → k < start → (get_or links k d).earlier < number)
    → ((k : ℕ) (d : Link) → start ≤ k → k < length links → number ≤ (get_or links k d).earlier)
    → ((k : ℕ) (d : Link) → k < size → (get_or (drop start links) k d).earlier ≤ number)
    → ((k : ℕ) (d : Link) → size ≤ k → k < length (drop start links) → number < (get_or (drop start links) k d).earlier)
    → times_led (take size (drop start links)) n ≡ times_linked links number n
links_between links number start size n le le' below above to behind =
    let part = count_by-middle (λ (l : Link). number == l.earlier && l.later == n) links start size le
    (λ k d l s. and_left _ _ (ne_eqb number (get_or links k d).earlier (λ e. omega (arith, e, below k d s))))
    (λ k d l s. and_left _ _ (ne_eqb number (get_or (drop start links) k d).earlier (λ e. omega (arith, e, behind k d s l)))) in
    let same = count_by-agree (λ (l : Link). number == l.earlier && l.later == n) (λ (l : Link). l.later == n) (take size (drop start links)) (λ k d l.
    let inside : k < size = omega (arith, l, length-take size (drop start links)) in
    let high : start + k < length links = omega (arith, le', length-drop start links) in
    let is : get_or (take size (drop start links)) k d ≡ get_or (drop start links) k d = get_or-take size (drop start links) k d inside in
    let from : (get_or (drop start links) k d).earlier ≡ (get_or links (start + k) d).earlier = ap (λ (x : Link). x.earlier) (get_or-drop start links k d) in
    let here : number ≡ (get_or (drop start links) k d).earlier = omega (arith, from, above (start + k) d (omega arith) high, to k d inside) in
    let there : number ≡ (get_or (take size (drop start links)) k d).earlier = here ∙ ap (λ (x : Link). x.earlier) (sym is) in
    ap (λ b. b && (get_or (take size (drop start links)) k d).later == n) (eq-eqb number (get_or (take size (drop start links)) k d).earlier there)) in
    sym same ∙ sym part

-- the same of a list that is what stands from there on
pub links_within : (links rest : List Link) (number start size n : ℕ) → rest ≡ drop start links → start ≤ length links → size ≤ length rest
    → ((k : ℕ) (d : Link) → k < start → (get_or links k d).earlier < number)
    → ((k : ℕ) (d : Link) → start ≤ k → k < length links → number ≤ (get_or links k d).earlier)
    → ((k : ℕ) (d : Link) → k < size → (get_or rest k d).earlier ≤ number)
    → ((k : ℕ) (d : Link) → size ≤ k → k < length rest → number < (get_or rest k d).earlier)
    → times_led (take size rest) n ≡ times_linked links number n
links_within links rest number start size n is le le' below above to behind =
    ap (λ (ls : List Link). times_led (take size ls) n) is
    ∙ links_between links number start size n le (omega (arith, le', ap length is)) below above
    (λ k d low. omega (arith, to k d low, ap (λ (ls : List Link). (get_or ls k d).earlier) is))
    (λ k d high within. omega (arith, behind k d high (omega (arith, within, ap length is)), ap (λ (ls : List Link). (get_or ls k d).earlier) is))

-- links that rise go on rising
pub rising_drop : (links : List Link) (start : ℕ) → IsNonDecreasingBy (λ (l : Link). l.earlier) links → IsNonDecreasingBy (λ (l : Link). l.earlier) (drop start links)
rising_drop links start rising i j d le lt =
    let one = ap (λ (l : Link). l.earlier) (get_or-drop start links i d) in
    let two = ap (λ (l : Link). l.earlier) (get_or-drop start links j d) in
    omega (arith, one, two, rising (start + i) (start + j) d (omega arith) (omega (arith, lt, length-drop start links)))

-- one number more of which links may lead
pub times_held-cons : (x : ℕ) (ms : List ℕ) (links : List Link) (n : ℕ) → times_held (x ∷ ms) links n ≡ times_linked links x n + times_held ms links n
times_held-cons x ms [] n = refl
times_held-cons x ms (l ∷ links) n =
    let more = times_held-cons x ms links n in
    let one = sum_by-cons (λ (l : Link). cond (l.later == n) (count_by (λ m. m == l.earlier) (x ∷ ms)) 0) l links in
    let two = sum_by-cons (λ (l : Link). cond (l.later == n) (count_by (λ m. m == l.earlier) ms) 0) l links in
    let three = sum_by-cons (λ (l : Link). one_if (x == l.earlier && l.later == n)) l links in
    omega (arith, more, one, two, three, here (x == l.earlier) (l.later == n) (times l.earlier (x ∷ ms)) (times l.earlier ms) (times-cons l.earlier x ms))
  where
    here : (a b : Bool) (s t : ℕ) → s ≡ cond a 1 0 + t → cond b s 0 ≡ one_if (a && b) + cond b t 0
    here true true s t e = e
    here true false s t e = refl
    here false true s t e = e
    here false false s t e = refl

-- the same numbers in another order
pub times_held-permutation : (ms ns : List ℕ) (links : List Link) (n : ℕ) → IsPermutation ms ns → times_held ms links n ≡ times_held ns links n
times_held-permutation ms ns [] n h = refl
times_held-permutation ms ns (l ∷ links) n h =
    let one = sum_by-cons (λ (l : Link). cond (l.later == n) (count_by (λ m. m == l.earlier) ms) 0) l links in
    let two = sum_by-cons (λ (l : Link). cond (l.later == n) (count_by (λ m. m == l.earlier) ns) 0) l links in
    let same : times l.earlier ns ≡ times l.earlier ms = sum_by-IsPermutation (λ m. one_if (eqb m l.earlier)) ms ns h in
    omega (arith, one, two, times_held-permutation ms ns links n h, ap (λ t. cond (l.later == n) t 0) same)

-- distinct numbers hold one back by no more links than there are
pub times_held-le : (ms : List ℕ) (links : List Link) (n : ℕ) → AreDistinct ms → times_held ms links n ≤ length links
times_held-le ms links n distinct =
    omega (
      arith,
      sum_by-le (λ (l : Link). cond (l.later == n) (count_by (λ m. m == l.earlier) ms) 0) 1 links (λ k d l.
          let x = get_or links k d in
          one (x.later == n) (times x.earlier ms) (times-distinct ms distinct x.earlier)),
    )
  where
    one : (b : Bool) (t : ℕ) → t ≤ 1 → cond b t 0 ≤ 1
    one true t h = h
    one false t h = omega arith

-- one link more
pub times_held-more : (ms : List ℕ) (links : List Link) (i : ℕ) (l : Link) (n : ℕ) → i < length links → l ≡ get_or links i l
    → times_held ms (take (i + 1) links) n ≡ times_held ms (take i links) n + cond (l.later == n) (times l.earlier ms) 0
times_held-more ms links i l n lt is =
    sum_by_more (λ (l : Link). cond (l.later == n) (count_by (λ m. m == l.earlier) ms) 0) links i l lt
    ∙ ap (λ (x : Link). times_held ms (take i links) n + cond (x.later == n) (times x.earlier ms) 0) (sym is)

-- where some hold a number back, there is a link from one of them
pub some_holds : (ms : List ℕ) (links : List Link) (n : ℕ) → 0 < times_held ms links n → (m : ℕ) × Contains ms m × (0 < times_linked links m n)
some_holds [] links n h = absurd (omega (arith, none links))
  where
    nothing : (b : Bool) → cond b 0 0 + 0 ≡ 0
    nothing true = refl
    nothing false = refl

    none : (links : List Link) → times_held [] links n ≡ 0
    none [] = refl
    none (l ∷ links) =
        sum_by-cons (λ (l : Link). cond (l.later == n) (count_by (λ m. m == l.earlier) []) 0) l links ∙ ap (λ t. cond (l.later == n) 0 0 + t) (none links) ∙ nothing (l.later == n)
some_holds (x ∷ ms) links n h =
    elim (cases_lt 0 (times_linked links x n)) [
      | inl some ↦ (x, (0, omega arith, refl), some)
      | inr none ↦
          let rest = some_holds ms links n (omega (arith, h, none, times_held-cons x ms links n)) in
          (rest.0, (suc rest.1.0, omega (arith, rest.1.1), rest.1.2), rest.2)
    ]

-- and the other way round
pub holds : (ms : List ℕ) (links : List Link) (m n : ℕ) → Contains ms m → 0 < times_linked links m n → 0 < times_held ms links n
holds [] links m n h some = absurd (omega (arith, h.1))
holds (x ∷ ms) links m n (zero, lt, e) some =
    let here : times_linked links x n ≡ times_linked links m n = ap (λ k. times_linked links k n) e in
    omega (arith, times_held-cons x ms links n, here, some)
holds (x ∷ ms) links m n (suc k, lt, e) some =
    omega (arith, times_held-cons x ms links n, holds ms links m n (k, omega arith, e) some)

-- one link more at the end
pub times_linked-push : (links : List Link) (l : Link) (m n : ℕ) → times_linked (links ++ l ∷ []) m n ≡ times_linked links m n + one_if (m == l.earlier && l.later == n)
times_linked-push links l m n = sum_by_push (λ (l : Link). one_if (m == l.earlier && l.later == n)) links l

pub times_linked-permutation : (xs ys : List Link) (m n : ℕ) → IsPermutation xs ys → times_linked ys m n ≡ times_linked xs m n
times_linked-permutation xs ys m n h = sum_by-IsPermutation (λ (l : Link). one_if (m == l.earlier && l.later == n)) xs ys h

-- one number more that a binding names, and a link for it
pub named_pushed : (was now : List Link) (before : ℕ) (p : ℕ → Bool) (ns : List ℕ) (i d : ℕ) (l : Link) (m n : ℕ) → i < length ns → now ≡ was ++ l ∷ []
    → times_linked was m n ≡ before + count_by p (take i ns) → p (get_or ns i d) ≡ (m == l.earlier && l.later == n)
    → times_linked now m n ≡ before + count_by p (take (i + 1) ns)
named_pushed was now before p ns i d l m n lt is so_far passes =
    omega (
      arith,
      ap (λ (ls : List Link). times_linked ls m n) is,
      times_linked-push was l m n,
      so_far,
      sum_by_more (λ k. cond (p k) 1 0) ns i d lt,
      ap one_if passes,
    )

-- one for which there is none
pub named_passed : (links : List Link) (before : ℕ) (p : ℕ → Bool) (ns : List ℕ) (i d m n : ℕ) → i < length ns
    → times_linked links m n ≡ before + count_by p (take i ns) → p (get_or ns i d) ≡ false
    → times_linked links m n ≡ before + count_by p (take (i + 1) ns)
named_passed links before p ns i d m n lt so_far fails =
    omega (arith, so_far, sum_by_more (λ k. cond (p k) 1 0) ns i d lt, ap one_if fails)
