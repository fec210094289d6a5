-- Counts over the parts of a list by lane.
use Rattle.std.proofs.Common.{◌≡◌, ◌==◌, ℕ, zero, suc, ◌+◌, ◌<◌, Bool, true, false, cond, eqb, List, [], ◌∷◌, refl, ap, subst, arith}
use Rattle.std.specs.Prelude.{All, filter}
use Rattle.std.specs.List.{count_by}
use Rattle.std.proofs.lemmas.Bool.{eqb-true, eqb-false, ne_eqb, eq-eqb}
use Rattle.std.proofs.lemmas.List.Sums.{sum_by-cons}
use Rattle.std.proofs.lemmas.List.Elements.{All-nil, All-cons, All-head, All-tail}

-- f of each number below n, added up
abbrev pub sum_below : ℕ → (ℕ → ℕ) → ℕ
sum_below zero f = 0
sum_below (suc n) f = sum_below n f + f n

pub count-cons : {X : Type 0} (t : X → Bool) (x : X) (xs : List X) → count_by t (x ∷ xs) ≡ cond (t x) 1 0 + count_by t xs
count-cons t x xs = sum_by-cons (λ x. cond (t x) 1 0) x xs

-- no element passes
pub count_none : {X : Type 0} (t : X → Bool) (xs : List X) → All (λ x. t x ≡ false) xs → count_by t xs ≡ 0
count_none t [] none = refl
count_none t (x ∷ xs) none =
    let rest = count_none t xs (All-tail (λ x. t x ≡ false) x xs none) in
    let e : cond {A = ℕ} (t x) 1 0 ≡ 0 = ap (λ b. cond {A = ℕ} b 1 0) (All-head (λ x. t x ≡ false) x xs none) in
    let c = count-cons t x xs in
    omega (arith, rest, e, c)

pub sum_below-same : (n : ℕ) (f g : ℕ → ℕ) → ((k : ℕ) → k < n → f k ≡ g k) → sum_below n f ≡ sum_below n g
sum_below-same zero f g same = refl
sum_below-same (suc n) f g same =
    let r = sum_below-same n f g (λ k h. same k (omega arith)) in
    let e = same n (omega arith) in
    omega (arith, r, e)

sum_below-zero : (n : ℕ) (f : ℕ → ℕ) → ((k : ℕ) → k < n → f k ≡ 0) → sum_below n f ≡ 0
sum_below-zero zero f same = refl
sum_below-zero (suc n) f same =
    let r = sum_below-zero n f (λ k h. same k (omega arith)) in
    let e = same n (omega arith) in
    omega (arith, r, e)

sum_below-add : (n : ℕ) (f g : ℕ → ℕ) → sum_below n (λ k. f k + g k) ≡ sum_below n f + sum_below n g
sum_below-add zero f g = refl
sum_below-add (suc n) f g = let r = sum_below-add n f g in omega (arith, r)

-- one number below n, weighed
one_below : (n m w : ℕ) → m < n → sum_below n (λ k. cond (m == k) w 0) ≡ w
one_below zero m w lt = absurd (omega arith)
one_below (suc n) m w lt = go (eqb m n) refl (λ (h : m < n). one_below n m w h)
  where
    go : (b : Bool) → eqb m n ≡ b → (m < n → sum_below n (λ k. cond (m == k) w 0) ≡ w) → sum_below n (λ k. cond (m == k) w 0) + cond (m == n) w 0 ≡ w
    go true e less =
        let none = sum_below-zero n (λ k. cond (m == k) w 0) (λ k h. ap (λ t. cond t w 0) (ne_eqb m k (λ same. let f = eqb-true m n e in absurd (omega arith)))) in
        let here : cond {A = ℕ} (m == n) w 0 ≡ w = ap (λ t. cond {A = ℕ} t w 0) e in
        omega (arith, none, here)
    go false e less =
        let ne = eqb-false m n e in
        let r = less (omega arith) in
        let here : cond {A = ℕ} (m == n) w 0 ≡ 0 = ap (λ t. cond {A = ℕ} t w 0) e in
        omega (arith, r, here)

-- the parts by lane have together what the list has
pub partition : {X : Type 0} (t : X → Bool) (lane : X → ℕ) (n : ℕ) (xs : List X) → All (λ x. lane x < n) xs → sum_below n (λ k. count_by t (filter (λ x. lane x == k) xs)) ≡ count_by t xs
partition t lane n [] below = sum_below-zero n (λ k. 0) (λ k h. refl)
partition {X} t lane n (x ∷ xs) below =
    let rest = partition t lane n xs (All-tail (λ x. lane x < n) x xs below) in
    let one = one_below n (lane x) (cond (t x) 1 0) (All-head (λ x. lane x < n) x xs below) in
    let each =
    sum_below-same n (λ k. count_by t (filter (λ x. lane x == k) (x ∷ xs))) (λ k. cond (lane x == k) (cond (t x) 1 0) 0 + count_by t (filter (λ x. lane x == k) xs)) (λ k h. go k (lane x == k)) in
    let add = sum_below-add n (λ k. cond (lane x == k) (cond (t x) 1 0) 0) (λ k. count_by t (filter (λ x. lane x == k) xs)) in
    let c = count-cons t x xs in
    omega (arith, rest, one, each, add, c)
  where
    go : (k : ℕ) (b : Bool) → count_by t (cond b (x ∷ filter (λ x. lane x == k) xs) (filter (λ x. lane x == k) xs)) ≡ cond b (cond (t x) 1 0) 0 + count_by t (filter (λ x. lane x == k) xs)
    go k true = count-cons t x (filter (λ x. lane x == k) xs)
    go k false = omega arith

-- what holds of the elements of each lane holds of all
pub by_lane : {X : Type 0} (P : X → Type 0) (lane : X → ℕ) (n : ℕ) (xs : List X) → All (λ x. lane x < n) xs → ((k : ℕ) → k < n → All P (filter (λ x. lane x == k) xs)) → All P xs
by_lane P lane n [] under each = All-nil P
by_lane {X} P lane n (x ∷ xs) under each =
    All-cons P x xs (All-head P x (filter (λ y. lane y == lane x) xs)
    (subst (λ b. All P (cond b (x ∷ filter (λ y. lane y == lane x) xs) (filter (λ y. lane y == lane x) xs))) (eq-eqb (lane x) (lane x) refl) (each (lane x) (All-head (λ x. lane x < n) x xs under))))
    (by_lane P lane n xs (All-tail (λ x. lane x < n) x xs under) (λ k lt. go k (lane x == k) (each k lt)))
  where
    go : (k : ℕ) (b : Bool) → All P (cond b (x ∷ filter (λ y. lane y == k) xs) (filter (λ y. lane y == k) xs)) → All P (filter (λ y. lane y == k) xs)
    go k true all = All-tail P x (filter (λ y. lane y == k) xs) all
    go k false all = all
