-- Positions that pass rise, and the first of them from a place on is the next that passes.
use Rattle.std.proofs.Common.{◌≡◌, Bor, ℕ, zero, suc, ◌+◌, ◌<◌, ◌≤◌, Bool, true, false, ◌||◌, List, [], ◌∷◌, ◌++◌, length, take, not, is_some}
use Rattle.std.proofs.Common.{add-one, get_or, Option, Some, None, refl, sym, ap, subst, ◌∙◌, arith, nat_le, nat_lt, min, cond, slice_get, ⊎_elim}
use Rattle.std.specs.Prelude.{IfSome, IsSomeAnd}
use Rattle.std.specs.Option.{option_copied}
use Rattle.std.proofs.lemmas.List.{length-take}
use Rattle.std.proofs.Math.Seq.{take-suc}
use Rattle.std.specs.List.{find}
use Rattle.std.specs.List.Sorted.{IsNonDecreasing, IsPartitionedBy}
use Rattle.std.proofs.lemmas.Bool.{cases_lt}
use Rattle.std.proofs.lemmas.Bool.Decides.{nat_tests}
use Rattle.std.proofs.lemmas.Option.{slice_get_past, slice_get-get_or}
use Rattle.spin_plan.specs.Next.{IsNext, NonePass}
use Rattle.spin_plan.specs.Planned.{positions_from, least}

pub take_push : {X : Type 0} (xs : List X) (i : ℕ) (x : X) → i < length xs → x ≡ get_or xs i x → take (i + 1) xs ≡ take i xs ++ x ∷ []
take_push xs i x lt is = ap (λ n. take n xs) (add-one i) ∙ take-suc xs i x lt ∙ ap (λ y. take i xs ++ y ∷ []) (sym is)

-- each is at least the number from which they are counted
at_least_if : (b : Bool) (n : ℕ) (rest : List ℕ) → ((k d : ℕ) → k < length rest → n + 1 ≤ get_or rest k d) → (k d : ℕ) → k < length (cond b (n ∷ rest) rest) → n ≤ get_or (cond b (n ∷ rest) rest) k d
at_least_if true n rest more zero d lt = omega arith
at_least_if true n rest more (suc k) d lt = omega (arith, more k d (omega (arith, lt)))
at_least_if false n rest more k d lt = omega (arith, more k d lt)

pub at_least : {X : Type 0} (p : X → Bool) (n : ℕ) (xs : List X) (k d : ℕ) → k < length (positions_from p n xs) → n ≤ get_or (positions_from p n xs) k d
at_least p n [] k d lt = absurd (omega (arith, lt))
at_least p n (x ∷ xs) k d lt = at_least_if (p x) n (positions_from p (n + 1) xs) (at_least p (n + 1) xs) k d lt

rises_if : (b : Bool) (n : ℕ) (rest : List ℕ) → ((k d : ℕ) → k < length rest → n + 1 ≤ get_or rest k d) → IsNonDecreasing rest → IsNonDecreasing (cond b (n ∷ rest) rest)
rises_if true n rest more rises zero zero d le lt = omega arith
rises_if true n rest more rises zero (suc j) d le lt = omega (arith, more j d (omega (arith, lt)))
rises_if true n rest more rises (suc i) zero d le lt = absurd (omega (arith, le))
rises_if true n rest more rises (suc i) (suc j) d le lt = rises i j d (omega (arith, le)) (omega (arith, lt))
rises_if false n rest more rises i j d le lt = rises i j d le lt

pub positions_rise : {X : Type 0} (p : X → Bool) (n : ℕ) (xs : List X) → IsNonDecreasing (positions_from p n xs)
positions_rise p n [] i j d le lt = absurd (omega (arith, lt))
positions_rise p n (x ∷ xs) i j d le lt = rises_if (p x) n (positions_from p (n + 1) xs) (at_least p (n + 1) xs) (positions_rise p (n + 1) xs) i j d le lt

-- the first from a place on, of positions that are counted from a number on
IsFirst : {X : Type 0} → (X → Bool) → ℕ → List X → ℕ → Option ℕ → Type 0
IsFirst p n xs from None = (k : ℕ) → from ≤ n + k → k < length xs → IfSome (slice_get xs k) (λ x. p x ≡ false)
IsFirst p n xs from (Some at) =
    (k : ℕ) × (at ≡ n + k) × (from ≤ at) × IsSomeAnd (slice_get xs k) (λ x. p x ≡ true)
    × ((j : ℕ) → from ≤ n + j → j < k → IfSome (slice_get xs j) (λ x. p x ≡ false))

shifted : {X : Type 0} (p : X → Bool) (n : ℕ) (x : X) (xs : List X) (from : ℕ) (r : Option ℕ) → (from ≤ n → p x ≡ false) → IsFirst p (n + 1) xs from r → IsFirst p n (x ∷ xs) from r
unfolding IsFirst
shifted p n x xs from None here first = none_left
  where
    none_left : (k : ℕ) → from ≤ n + k → k < suc (length xs) → IfSome (slice_get (x ∷ xs) k) (λ y. p y ≡ false)
    none_left zero le lt = here (omega (arith, le))
    none_left (suc k) le lt = first k (omega (arith, le)) (omega (arith, lt))
shifted p n x xs from (Some at) here (k, is, le, passes, none) =
    (suc k, omega (arith, is), le, passes, earlier)
  where
    earlier : (j : ℕ) → from ≤ n + j → j < suc k → IfSome (slice_get (x ∷ xs) j) (λ y. p y ≡ false)
    earlier zero before lt = here (omega (arith, before))
    earlier (suc j) before lt = none j (omega (arith, before)) (omega (arith, lt))

first_if : {X : Type 0} (p : X → Bool) (n : ℕ) (x : X) (xs : List X) (from : ℕ) (rest : List ℕ) (b c : Bool) → p x ≡ b → nat_le from n ≡ c
    → IsFirst p (n + 1) xs from (find (nat_le from) rest) → IsFirst p n (x ∷ xs) from (cond b (cond c (Some n) (find (nat_le from) rest)) (find (nat_le from) rest))
unfolding IsFirst
first_if p n x xs from rest true true is le first = (zero, omega arith, grind (arith, nat_tests, le), is, λ j before lt. absurd (omega (arith, lt)))
first_if p n x xs from rest true false is le first = shifted p n x xs from _ (λ before. absurd (grind (arith, nat_tests, le, before))) first
first_if p n x xs from rest false c is le first = shifted p n x xs from _ (λ before. is) first

find_cond : (b : Bool) (from n : ℕ) (rest : List ℕ) → find (nat_le from) (cond b (n ∷ rest) rest) ≡ cond b (cond (nat_le from n) (Some n) (find (nat_le from) rest)) (find (nat_le from) rest)
find_cond true from n rest = refl
find_cond false from n rest = refl

first_position : {X : Type 0} (p : X → Bool) (n : ℕ) (xs : List X) (from : ℕ) → IsFirst p n xs from (find (nat_le from) (positions_from p n xs))
unfolding IsFirst
first_position p n [] from = λ k le lt. absurd (omega (arith, lt))
first_position p n (x ∷ xs) from =
    subst (IsFirst p n (x ∷ xs) from) (sym (find_cond (p x) from n (positions_from p (n + 1) xs)))
    (first_if p n x xs from (positions_from p (n + 1) xs) (p x) (nat_le from n) refl refl (first_position p (n + 1) xs from))

first_is_next : {X : Type 0} (p : X → Bool) (xs : List X) (from : ℕ) (r : Option ℕ) → IsFirst p 0 xs from r → IsNext p xs from r
unfolding IsFirst
first_is_next p xs from None first = λ k le lt. first k (omega (arith, le)) lt
first_is_next p xs from (Some at) (k, is, le, passes, none) =
    (le, subst (λ n. IsSomeAnd (slice_get xs n) (λ x. p x ≡ true)) (sym (is ∙ omega arith)) passes, λ j before lt. none j (omega (arith, before)) (omega (arith, lt, is)))

pub next_position : {X : Type 0} (p : X → Bool) (xs : List X) (from : ℕ) → IsNext p xs from (find (nat_le from) (positions_from p 0 xs))
next_position p xs from = first_is_next p xs from _ (first_position p 0 xs from)

-- ---- the next that passes one of two tests

neither : {X : Type 0} (p q : X → Bool) (o : Option X) → IfSome o (λ x. p x ≡ false) → IfSome o (λ x. q x ≡ false) → IfSome o (λ x. (p x || q x) ≡ false)
neither p q None a b = tt
neither p q (Some x) a b = ap (λ t. t || q x) a ∙ b

left_one : {X : Type 0} (p q : X → Bool) (o : Option X) → IsSomeAnd o (λ x. p x ≡ true) → IsSomeAnd o (λ x. (p x || q x) ≡ true)
left_one p q None h = h
left_one p q (Some x) h = ap (λ t. t || q x) h

or_true : (a b : Bool) → b ≡ true → (a || b) ≡ true
or_true true b h = refl
or_true false b h = h

right_one : {X : Type 0} (p q : X → Bool) (o : Option X) → IsSomeAnd o (λ x. q x ≡ true) → IsSomeAnd o (λ x. (p x || q x) ≡ true)
right_one p q None h = h
right_one p q (Some x) h = or_true (p x) (q x) h

none_at_all : {X : Type 0} (p : X → Bool) (xs : List X) (from to : ℕ) → NonePass p xs from (length xs) → NonePass p xs from to
none_at_all p xs from to none k le lt =
    ⊎_elim (λ within. none k le within)
    (λ past. subst (λ o. IfSome o (λ x. p x ≡ false)) (sym (slice_get_past xs k past)) tt)
    (cases_lt k (length xs))

min_left : (x y : ℕ) → x ≤ y → min x y ≡ x
min_left x y le = omega (arith, le)

min_right : (x y : ℕ) → y ≤ x → min x y ≡ y
min_right x y le = omega (arith, le)

pub next_of_both : {X : Type 0} (p q : X → Bool) (xs : List X) (from : ℕ) (r s : Option ℕ) → IsNext p xs from r → IsNext q xs from s → IsNext (λ x. p x || q x) xs from (least r s)
next_of_both p q xs from None None none other = λ k le lt. neither p q (slice_get xs k) (none k le lt) (other k le lt)
next_of_both p q xs from None (Some y) none (le, passes, other) =
    (le, right_one p q (slice_get xs y) passes, λ k before lt. neither p q (slice_get xs k) (none_at_all p xs from y none k before lt) (other k before lt))
next_of_both p q xs from (Some x) None (le, passes, none) other =
    (le, left_one p q (slice_get xs x) passes, λ k before lt. neither p q (slice_get xs k) (none k before lt) (none_at_all q xs from x other k before lt))
next_of_both p q xs from (Some x) (Some y) (le, passes, none) (le', passes', other) =
    ⊎_elim
    (λ less. subst (λ n. IsNext (λ x. p x || q x) xs from (Some n)) (sym (min_left x y (omega (arith, less))))
    (le, left_one p q (slice_get xs x) passes, λ k before lt. neither p q (slice_get xs k) (none k before lt) (other k before (omega (arith, lt, less)))))
    (λ more. subst (λ n. IsNext (λ x. p x || q x) xs from (Some n)) (sym (min_right x y more))
    (le', right_one p q (slice_get xs y) passes', λ k before lt. neither p q (slice_get xs k) (none k before (omega (arith, lt, more))) (other k before lt)))
    (cases_lt x y)

-- ---- what a binary search finds

find_split : (xs : List ℕ) (from n : ℕ) → ((k d : ℕ) → k < n → k < length xs → nat_lt (get_or xs k d) from ≡ true)
    → ((k d : ℕ) → n ≤ k → k < length xs → nat_lt (get_or xs k d) from ≡ false) → find (nat_le from) xs ≡ slice_get xs n
find_split [] from n below above = refl
find_split (x ∷ xs) from zero below above =
    let here : nat_le from x ≡ true = grind (arith, nat_tests, above 0 0 (omega arith) (omega arith)) in
    ap (λ b. cond b (Some x) (find (nat_le from) xs)) here
find_split (x ∷ xs) from (suc n) below above =
    let here : nat_le from x ≡ false = grind (arith, nat_tests, below 0 0 (omega arith) (omega arith)) in
    ap (λ b. cond b (Some x) (find (nat_le from) xs)) here
    ∙ find_split xs from n (λ k d lt within. below (suc k) d (omega (arith, lt)) (omega (arith, within)))
    (λ k d le within. above (suc k) d (omega (arith, le)) (omega (arith, within)))

pub found : (xs : List ℕ) (from n : ℕ) → ((k d : ℕ) → k < n → k < length xs → nat_lt (get_or xs k d) from ≡ true)
    → ((k d : ℕ) → n ≤ k → k < length xs → nat_lt (get_or xs k d) from ≡ false) → find (nat_le from) xs ≡ slice_get xs n
found = find_split

pub is_partitioned : (xs : List ℕ) (from : ℕ) → IsNonDecreasing xs → IsPartitionedBy (λ n. nat_lt n from) xs
is_partitioned xs from rises i j d le lt below = grind (arith, nat_tests, rises i j d le lt, below)

-- ---- one position more

pub positions_push : {X : Type 0} (p : X → Bool) (n : ℕ) (xs : List X) (x : X) → positions_from p n (xs ++ x ∷ []) ≡ positions_from p n xs ++ cond (p x) ((n + length xs) ∷ []) []
positions_push p n [] x = alone (p x) n
  where
    alone : (b : Bool) (n : ℕ) → cond b (n ∷ []) [] ≡ cond b ((n + 0) ∷ []) []
    alone true n = ap (λ k. k ∷ []) (omega arith)
    alone false n = refl
positions_push p n (y ∷ xs) x =
    ap (λ ks. cond (p y) (n ∷ ks) ks) (positions_push p (n + 1) xs x)
    ∙ behind (p y) n (positions_from p (n + 1) xs) (cond (p x) ((n + 1 + length xs) ∷ []) [])
    ∙ ap (λ k. cond (p y) (n ∷ positions_from p (n + 1) xs) (positions_from p (n + 1) xs) ++ cond (p x) (k ∷ []) []) (further n (length xs))
  where
    behind : (b : Bool) (n : ℕ) (rest more : List ℕ) → cond b (n ∷ (rest ++ more)) (rest ++ more) ≡ cond b (n ∷ rest) rest ++ more
    behind true n rest more = refl
    behind false n rest more = refl

    further : (a b : ℕ) → a + 1 + b ≡ a + suc b
    further a b = omega arith

pub positions_more : {X : Type 0} (p : X → Bool) (xs : List X) (i : ℕ) (x : X) → i < length xs → x ≡ get_or xs i x
    → positions_from p 0 (take (i + 1) xs) ≡ positions_from p 0 (take i xs) ++ cond (p x) (i ∷ []) []
positions_more p xs i x lt is =
    ap (positions_from p 0) (take_push xs i x lt is)
    ∙ positions_push p 0 (take i xs) x
    ∙ ap (λ n. positions_from p 0 (take i xs) ++ cond (p x) (n ∷ []) []) (length_of xs i lt)
  where
    length_of : {Y : Type 0} (ys : List Y) (k : ℕ) → k < length ys → 0 + length (take k ys) ≡ k
    length_of ys k lt = omega (arith, length-take k ys)

pub cond_not : {A : Type 0} (b : Bool) (x y : A) → cond (not b) x y ≡ cond b y x
cond_not true x y = refl
cond_not false x y = refl

-- what a look-up gives, copied
pub looked_up : (xs : List ℕ) (n : ℕ) (o : Option (Bor ℕ)) → is_some o ≡ nat_lt n (length xs) → IfSome o (λ x. x.now ≡ get_or xs n x.now) → option_copied o ≡ slice_get xs n
looked_up xs n None within read = sym (slice_get_past xs n (grind (arith, nat_tests, within)))
looked_up xs n (Some x) within read =
    let lt : n < length xs = grind (arith, nat_tests, within) in
    ap Some read ∙ sym (slice_get-get_or xs n x.now lt)
