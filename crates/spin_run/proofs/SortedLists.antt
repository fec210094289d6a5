-- Lists in order: those whose ties stand alike are one, and so are those that agree lane by lane.
use Rattle.std.proofs.Common.{◌≡◌, ◌==◌, ℕ, zero, suc, ◌+◌, Bool, true, false, cond, List, [], ◌∷◌, ◌++◌, get_or, refl, sym, ap, ◌∙◌, subst, arith}
use Rattle.std.specs.Prelude.{All, filter, not, ◌&&◌}
use Rattle.std.specs.Cmp.{IsStrictWeakOrder}
use Rattle.std.specs.List.Sorted.{IsSortedBy, ties}
use Rattle.std.proofs.lemmas.Bool.{false≢true, eq-eqb, and_from}
use Rattle.std.proofs.lemmas.List.Sorted.{sorted_far}
use Rattle.std.proofs.lemmas.List.Elements.{All-head, All-tail, All-cons, All-filter, All-append}

-- no element is less than one before it
abbrev pub Rising : {X : Type 0} → (X → X → Bool) → List X → Type 0
Rising lt [] = Unit {0}
Rising lt (x ∷ xs) = All (λ y. lt y x ≡ false) xs × Rising lt xs

tail_sorted : {X : Type 0} (lt : X → X → Bool) (x : X) (xs : List X) → IsSortedBy lt (x ∷ xs) → IsSortedBy lt xs
tail_sorted lt x xs up k d lo hi = subst (λ (n : ℕ). lt (get_or (x ∷ xs) n d) (get_or xs k d) ≡ false) (same k) (up (suc k) d (omega arith) (omega arith))
  where
    same : (k : ℕ) → suc k + 1 ≡ suc (k + 1)
    same k = omega arith

pub rising_from_sorted : {X : Type 0} (lt : X → X → Bool) → IsStrictWeakOrder lt → (xs : List X) → IsSortedBy lt xs → Rising lt xs
rising_from_sorted lt o [] up = tt
rising_from_sorted lt o (x ∷ xs) up =
    (λ k d h. sorted_far lt o (x ∷ xs) up 0 (suc k) d (omega arith) (omega arith), rising_from_sorted lt o xs (tail_sorted lt x xs up))

pub Rising-filter : {X : Type 0} (lt : X → X → Bool) (p : X → Bool) (xs : List X) → Rising lt xs → Rising lt (filter p xs)
Rising-filter lt p [] up = tt
Rising-filter {X} lt p (x ∷ xs) up = go (p x) (Rising-filter lt p xs up.1)
  where
    go : (b : Bool) → Rising lt (filter p xs) → Rising lt (cond b (x ∷ filter p xs) (filter p xs))
    go true rest = (All-filter p (λ y. lt y x ≡ false) xs up.0, rest)
    go false rest = rest

pub Rising-append : {X : Type 0} (lt : X → X → Bool) (xs ys : List X) → Rising lt xs → Rising lt ys → All (λ x. All (λ y. lt y x ≡ false) ys) xs → Rising lt (xs ++ ys)
Rising-append lt [] ys up up' over = up'
Rising-append lt (x ∷ xs) ys up up' over =
    (All-append (λ y. lt y x ≡ false) xs ys up.0 (All-head (λ x. All (λ y. lt y x ≡ false) ys) x xs over), Rising-append lt xs ys up.1 up' (All-tail (λ x. All (λ y. lt y x ≡ false) ys) x xs over))

-- the way back
pub sorted_from_rising : {X : Type 0} (lt : X → X → Bool) (xs : List X) → Rising lt xs → IsSortedBy lt xs
sorted_from_rising lt [] up k d lo hi = absurd (omega arith)
sorted_from_rising lt (x ∷ xs) up zero d lo hi = up.0 0 d (omega arith)
sorted_from_rising lt (x ∷ xs) up (suc k) d lo hi =
    subst (λ (n : ℕ). lt (get_or (x ∷ xs) n d) (get_or xs k d) ≡ false) (sym (same k)) (sorted_from_rising lt xs up.1 k d (omega arith) (omega arith))
  where
    same : (k : ℕ) → suc k + 1 ≡ suc (k + 1)
    same k = omega arith

module _ {X : Type 0} (lt : X → X → Bool) (o : IsStrictWeakOrder lt) where
  pub itself : (x : X) → lt x x ≡ false
  itself x = go (lt x x) refl
    where
      go : (b : Bool) → lt x x ≡ b → lt x x ≡ false
      go true e = o.one_way x x e
      go false e = e

  ties_itself : (x : X) → ties lt x x ≡ true
  ties_itself x = ap (λ b. not b && not b) (itself x)

  -- what is not less than y does not tie with what is less than y
  ties_none : (x y z : X) → lt x y ≡ true → lt z y ≡ false → ties lt x z ≡ false
  ties_none x y z less up = go (lt x z) refl
    where
      go : (b : Bool) → lt x z ≡ b → (not b && not (lt z x)) ≡ false
      go true e = refl
      go false e = absurd (false≢true (sym (o.chain x z y e up) ∙ less))

  filter_none : (x y : X) (zs : List X) → lt x y ≡ true → All (λ z. lt z y ≡ false) zs → filter (ties lt x) zs ≡ []
  filter_none x y [] less up = refl
  filter_none x y (z ∷ zs) less up =
      ap (λ b. cond b (z ∷ filter (ties lt x) zs) (filter (ties lt x) zs)) (ties_none x y z less (All-head (λ z. lt z y ≡ false) z zs up))
      ∙ filter_none x y zs less (All-tail (λ z. lt z y ≡ false) z zs up)

  head_of : (x : X) (xs : List X) → filter (ties lt x) (x ∷ xs) ≡ x ∷ filter (ties lt x) xs
  head_of x xs = ap (λ b. cond b (x ∷ filter (ties lt x) xs) (filter (ties lt x) xs)) (ties_itself x)

  -- the first of one list is not less than that of the other
  not_less : (x y : X) (xs ys : List X) → Rising lt (y ∷ ys) → filter (ties lt x) (x ∷ xs) ≡ filter (ties lt x) (y ∷ ys) → lt x y ≡ false
  not_less x y xs ys up same = go (lt x y) refl
    where
      go : (b : Bool) → lt x y ≡ b → lt x y ≡ false
      go true e =
          let none = filter_none x y (y ∷ ys) e (All-cons (λ z. lt z y ≡ false) y ys (itself y) up.0) in
          let bad : x ∷ filter (ties lt x) xs ≡ [] = sym (head_of x xs) ∙ same ∙ none in
          absurd (cc (bad))
      go false e = e

  -- two lists in order, whose ties stand alike, are one
  pub same_in_order : (xs ys : List X) → Rising lt xs → Rising lt ys → ((x : X) → filter (ties lt x) xs ≡ filter (ties lt x) ys) → xs ≡ ys
  same_in_order [] [] up up' same = refl
  same_in_order [] (y ∷ ys) up up' same = let bad : y ∷ filter (ties lt y) ys ≡ [] = sym (head_of y ys) ∙ sym (same y) in absurd (cc (bad))
  same_in_order (x ∷ xs) [] up up' same = let bad : x ∷ filter (ties lt x) xs ≡ [] = sym (head_of x xs) ∙ same x in absurd (cc (bad))
  same_in_order (x ∷ xs) (y ∷ ys) up up' same =
      let one = not_less x y xs ys up' (same x) in
      let two = not_less y x ys xs up (sym (same y)) in
      let tied : ties lt x y ≡ true = and_from (not (lt x y)) (not (lt y x)) (ap not one) (ap not two) in
      let heads : x ∷ filter (ties lt x) xs ≡ y ∷ filter (ties lt x) ys = sym (head_of x xs) ∙ same x ∙ ap (λ b. cond b (y ∷ filter (ties lt x) ys) (filter (ties lt x) ys)) tied in
      let head : x ≡ y = cc (heads) in
      let rest = same_in_order xs ys up.1 up'.1 (λ z. after z head (same z)) in
      λ i. head i ∷ rest i
    where
      after : (z : X) → x ≡ y → filter (ties lt z) (x ∷ xs) ≡ filter (ties lt z) (y ∷ ys) → filter (ties lt z) xs ≡ filter (ties lt z) ys
      after z head e = go (ties lt z y) (subst (λ w. cond (ties lt z w) (w ∷ filter (ties lt z) xs) (filter (ties lt z) xs) ≡ filter (ties lt z) (y ∷ ys)) head e)
        where
          go : (b : Bool) → cond b (y ∷ filter (ties lt z) xs) (filter (ties lt z) xs) ≡ cond b (y ∷ filter (ties lt z) ys) (filter (ties lt z) ys) → filter (ties lt z) xs ≡ filter (ties lt z) ys
          go true e = cc (e)
          go false e = e

pub filter_swap : {X : Type 0} (p q : X → Bool) (xs : List X) → filter p (filter q xs) ≡ filter q (filter p xs)
filter_swap p q [] = refl
filter_swap {X} p q (x ∷ xs) = go (p x) refl (q x) refl (filter_swap p q xs)
  where
    go : (a : Bool) → p x ≡ a → (b : Bool) → q x ≡ b → filter p (filter q xs) ≡ filter q (filter p xs)
        → filter p (cond b (x ∷ filter q xs) (filter q xs)) ≡ filter q (cond a (x ∷ filter p xs) (filter p xs))
    go true a true b e = ap (λ t. cond t (x ∷ filter p (filter q xs)) (filter p (filter q xs))) a ∙ ap (λ l. x ∷ l) e ∙ sym (ap (λ t. cond t (x ∷ filter q (filter p xs)) (filter q (filter p xs))) b)
    go true a false b e = e ∙ sym (ap (λ t. cond t (x ∷ filter q (filter p xs)) (filter q (filter p xs))) b)
    go false a true b e = ap (λ t. cond t (x ∷ filter p (filter q xs)) (filter p (filter q xs))) a ∙ e
    go false a false b e = e

-- what ties with x stands in x's lane
filter_within : {X : Type 0} (p q : X → Bool) (xs : List X) → ((x : X) → p x ≡ true → q x ≡ true) → filter p xs ≡ filter p (filter q xs)
filter_within p q [] so = refl
filter_within {X} p q (x ∷ xs) so = go (p x) refl (q x) refl (filter_within p q xs so)
  where
    go : (a : Bool) → p x ≡ a → (b : Bool) → q x ≡ b → filter p xs ≡ filter p (filter q xs) → cond a (x ∷ filter p xs) (filter p xs) ≡ filter p (cond b (x ∷ filter q xs) (filter q xs))
    go true a true b e = ap (λ l. x ∷ l) e ∙ sym (ap (λ t. cond t (x ∷ filter p (filter q xs)) (filter p (filter q xs))) a)
    go true a false b e = absurd (false≢true (sym b ∙ so x a))
    go false a true b e = e ∙ sym (ap (λ t. cond t (x ∷ filter p (filter q xs)) (filter p (filter q xs))) a)
    go false a false b e = e

-- two lists in order that agree lane by lane are one, where ties are of one lane
pub same_by_lanes : {X : Type 0} (lt : X → X → Bool) (o : IsStrictWeakOrder lt) (lane : X → ℕ) → ((x y : X) → ties lt x y ≡ true → lane y ≡ lane x)
    → (xs ys : List X) → Rising lt xs → Rising lt ys → ((k : ℕ) → filter (λ x. lane x == k) xs ≡ filter (λ x. lane x == k) ys) → xs ≡ ys
same_by_lanes {X} lt o lane tied xs ys up up' same =
    same_in_order lt o xs ys up up' (λ x.
    filter_within (ties lt x) (λ y. lane y == lane x) xs (λ y t. eq-eqb (lane y) (lane x) (tied x y t))
    ∙ ap (filter (ties lt x)) (same (lane x))
    ∙ sym (filter_within (ties lt x) (λ y. lane y == lane x) ys (λ y t. eq-eqb (lane y) (lane x) (tied x y t))))
