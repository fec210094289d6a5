-- Pairs of a list, and lists of numbers with the same elements.
use Rattle.std.proofs.Common.{◌≡◌, ℕ, zero, suc, ◌+◌, ◌<◌, Bool, true, false, cond, eqb, List, [], ◌∷◌, length, get_or, map, take, refl, sym, ap, subst, ◌∙◌, inl, inr, ◌⊎◌, arith, count_by}
use Rattle.std.specs.List.{All, AllPairs, Any, Contains, remove}
use Rattle.std.specs.List.Sorted.{IsPermutation}
use Rattle.std.proofs.lemmas.Bool.{cases_eq, eqb-true, eq-eqb, ne_eqb, cases_Bool}
use Rattle.std.proofs.lemmas.List.{length-take, get_or-take, get_or_default}
use Rattle.std.proofs.lemmas.List.Sums.{sum_by-cons, sum_by-le, get_or-le-sum_by}
use Rattle.std.proofs.lemmas.List.Sorted.{IsPermutation-refl, IsPermutation-sym, IsPermutation-trans, IsPermutation-cons, IsPermutation-remove, sum_by-IsPermutation}

pub AllPairs-head : {X : Type 0} (R : X → X → Type 0) (x : X) (xs : List X) → AllPairs R (x ∷ xs) → All (R x) xs
AllPairs-head R x xs h = λ k d l. h 0 (suc k) d (omega arith) (omega arith)

pub AllPairs-tail : {X : Type 0} (R : X → X → Type 0) (x : X) (xs : List X) → AllPairs R (x ∷ xs) → AllPairs R xs
AllPairs-tail R x xs h = λ i j d l m. h (suc i) (suc j) d (omega arith) (omega arith)

pub AllPairs-cons : {X : Type 0} (R : X → X → Type 0) (x : X) (xs : List X) → All (R x) xs → AllPairs R xs → AllPairs R (x ∷ xs)
AllPairs-cons R x xs first rest zero zero d l m = absurd (omega arith)
AllPairs-cons R x xs first rest zero (suc j) d l m = first j d (omega arith)
AllPairs-cons R x xs first rest (suc i) zero d l m = absurd (omega arith)
AllPairs-cons R x xs first rest (suc i) (suc j) d l m = rest i j d (omega arith) (omega arith)

pub AllPairs-take : {X : Type 0} (R : X → X → Type 0) (n : ℕ) (xs : List X) → AllPairs R xs → AllPairs R (take n xs)
AllPairs-take R n xs h = λ i j d l m.
    let high : j < n = omega (arith, length-take n xs) in
    let low : i < n = omega arith in
    let first = get_or-take n xs i d low in
    let second = get_or-take n xs j d high in
    subst (λ x. R x (get_or (take n xs) j d)) (sym first) (subst (λ y. R (get_or xs i d) y) (sym second) (h i j d l (omega (arith, length-take n xs))))

pub Contains-here : {X : Type 0} (x : X) (xs : List X) → Contains (x ∷ xs) x
Contains-here x xs = (0, omega arith, refl)

pub Contains-there : {X : Type 0} (x y : X) (xs : List X) → Contains xs x → Contains (y ∷ xs) x
Contains-there x y xs (k, l, e) = (suc k, omega arith, e)

pub Contains-cons : {X : Type 0} (x y : X) (xs : List X) → Contains (y ∷ xs) x → (y ≡ x) ⊎ Contains xs x
Contains-cons x y xs (zero, l, e) = inl e
Contains-cons x y xs (suc k, l, e) = inr (k, omega arith, e)

pub map-remove : {X Y : Type 0} (f : X → Y) (xs : List X) (i : ℕ) → map f (remove xs i) ≡ remove (map f xs) i
map-remove f [] zero = refl
map-remove f [] (suc i) = refl
map-remove f (x ∷ xs) zero = refl
map-remove f (x ∷ xs) (suc i) = ap (λ ys. f x ∷ ys) (map-remove f xs i)

-- 1 for what passes a test, and else 0
abbrev pub one_if : Bool → ℕ
one_if b = cond b 1 0

-- how often a number stands in a list
abbrev pub times : ℕ → List ℕ → ℕ
times n xs = count_by (λ m. eqb m n) xs

pub times-cons : (n x : ℕ) (xs : List ℕ) → times n (x ∷ xs) ≡ cond (eqb x n) 1 0 + times n xs
times-cons n x xs = sum_by-cons (λ m. cond (eqb m n) 1 0) x xs

pub times-same : (x : ℕ) (xs : List ℕ) → times x (x ∷ xs) ≡ 1 + times x xs
times-same x xs = times-cons x x xs ∙ ap (λ b. cond b 1 0 + times x xs) (eq-eqb x x refl)

-- a number that stands in the list at all
pub found : (x : ℕ) (xs : List ℕ) → 0 < times x xs → Contains xs x
found x [] h = absurd (omega arith)
found x (y ∷ ys) h =
    elim (cases_eq y x) [
      | inl e ↦ (0, omega arith, e)
      | inr ne ↦
          elim (cases_Bool (eqb y x)) [
            | inl t ↦ absurd (ne (eqb-true y x t))
            | inr f ↦
                let same : times x (y ∷ ys) ≡ 0 + times x ys = times-cons x y ys ∙ ap (λ b. cond b 1 0 + times x ys) f in
                Contains-there x y ys (found x ys (omega arith))
          ]
    ]

-- an element of a list stands before the others in another order of it
pub to_front : (xs : List ℕ) (x : ℕ) → (h : Contains xs x) → IsPermutation xs (x ∷ remove xs h.0)
to_front xs x (k, l, e) = IsPermutation-remove xs k x l (sym e)

pub times-permutation : (n : ℕ) (xs ys : List ℕ) → IsPermutation xs ys → times n ys ≡ times n xs
times-permutation n xs ys h = sum_by-IsPermutation (λ m. cond (eqb m n) 1 0) xs ys h

pub times_from_Contains : (x : ℕ) (xs : List ℕ) → Contains xs x → 0 < times x xs
times_from_Contains x xs h =
    omega (arith, times-same x (remove xs h.0), times-permutation x xs (x ∷ remove xs h.0) (to_front xs x h))

pub one_more : (n m : ℕ) → m ≡ n → one_if (eqb m n) ≡ 1
one_more n m e = ap one_if (eq-eqb m n e)

pub no_more : (n m : ℕ) → (m ≡ n → ⊥) → one_if (eqb m n) ≡ 0
no_more n m e = ap one_if (ne_eqb m n e)

pub IsPermutation-from_times : (xs ys : List ℕ) → ((n : ℕ) → times n xs ≡ times n ys) → IsPermutation xs ys
IsPermutation-from_times [] [] h = IsPermutation-refl []
IsPermutation-from_times [] (y ∷ ys) h = absurd (omega (arith, h y, times-same y ys))
IsPermutation-from_times (x ∷ xs) ys h =
    let at = found x ys (omega (arith, h x, times-same x xs)) in
    let front = to_front ys x at in
    let rest = λ (n : ℕ). let e : times n xs ≡ times n (remove ys at.0) =
    omega (arith, h n, times-cons n x xs, times-cons n x (remove ys at.0), times-permutation n ys (x ∷ remove ys at.0) front) in e in
    let same = IsPermutation-from_times xs (remove ys at.0) rest in
    IsPermutation-trans (x ∷ xs) (x ∷ remove ys at.0) ys (IsPermutation-cons x xs (remove ys at.0) same) (IsPermutation-sym ys (x ∷ remove ys at.0) front)

pub IsPermutation-uncons : (x : ℕ) (xs ys : List ℕ) → IsPermutation (x ∷ xs) (x ∷ ys) → IsPermutation xs ys
IsPermutation-uncons x xs ys h = IsPermutation-from_times xs ys (λ n. omega (arith, times-cons n x xs, times-cons n x ys, times-permutation n (x ∷ xs) (x ∷ ys) h))

-- a count of those that pass a test is 0 just where none passes
pub count_by-zero : {X : Type 0} (p : X → Bool) (xs : List X) → All (λ x. p x ≡ false) xs → count_by p xs ≡ 0
count_by-zero p xs h =
    omega (arith, sum_by-le (λ x. cond (p x) 1 0) 0 xs (λ k d l. omega (arith, ap one_if (h k d l))))

pub none_pass : {X : Type 0} (p : X → Bool) (xs : List X) → count_by p xs ≡ 0 → All (λ x. p x ≡ false) xs
none_pass p xs h k d l =
    elim (cases_Bool (p (get_or xs k d))) [
      | inl t ↦ absurd (omega (arith, get_or-le-sum_by (λ x. cond (p x) 1 0) xs k d l, ap one_if t))
      | inr f ↦ f
    ]

pub some_passes : {X : Type 0} (p : X → Bool) (xs : List X) → 0 < count_by p xs → Any (λ x. p x ≡ true) xs
some_passes p [] h = absurd (omega arith)
some_passes p (x ∷ xs) h =
    elim (cases_Bool (p x)) [
      | inl t ↦ (0, x, omega arith, refl, t)
      | inr f ↦
          let rest = some_passes p xs (omega (arith, sum_by-cons (λ y. cond (p y) 1 0) x xs, ap one_if f)) in
          (suc rest.0, rest.1, omega arith, rest.3, rest.4)
    ]

-- a number that stands before its index too stands twice
pub repeats : (ns : List ℕ) (at : ℕ) → at < length ns → Any (λ n. n ≡ get_or ns at 0) (take at ns) → AllPairs (λ m n. m ≡ n → ⊥) ns → ⊥
repeats ns at lt h distinct =
    let here : h.0 < at = omega (arith, h.2, length-take at ns) in
    let first : get_or ns h.0 0 ≡ get_or ns at 0 =
    get_or_default ns h.0 0 h.1 (omega arith) ∙ sym (get_or-take at ns h.0 h.1 here) ∙ h.3 ∙ h.4 in
    distinct h.0 at 0 here lt first

-- one that doesn't is unlike all before it
pub distinct_more : (ns : List ℕ) (at : ℕ) → at < length ns → (Any (λ n. n ≡ get_or ns at 0) (take at ns) → ⊥)
    → ((i j d : ℕ) → i < j → j < at → get_or ns i d ≡ get_or ns j d → ⊥)
    → (i j d : ℕ) → i < j → j < at + 1 → get_or ns i d ≡ get_or ns j d → ⊥
distinct_more ns at lt none before i j d less within same =
    elim (cases_eq j at) [
      | inl is ↦
          let here : i < length (take at ns) = omega (arith, length-take at ns) in
          let value : get_or (take at ns) i d ≡ get_or ns at 0 =
          get_or-take at ns i d (omega arith) ∙ same ∙ ap (λ k. get_or ns k d) is ∙ get_or_default ns at d 0 lt in
          none (i, get_or (take at ns) i d, here, get_or_default (take at ns) i (get_or (take at ns) i d) d here, value)
      | inr other ↦ before i j d less (omega arith) same
    ]
