-- Lawful orders of what a command leaves of some bindings.
use Rattle.std.proofs.Common.{◌≡◌, ℕ, ◌+◌, ◌<◌, Bool, true, false, cond, eqb, List, [], ◌∷◌, length, get_or, map, refl, sym, ap, subst, ◌∙◌, inl, inr, arith}
use Rattle.std.specs.Prelude.{filter, IsTrue}
use Rattle.std.specs.List.{All, Contains}
use Rattle.std.specs.List.Sorted.{IsPermutation}
use Rattle.std.proofs.lemmas.Bool.{cases_eq}
use Rattle.std.proofs.lemmas.List.{get_or-map, get_or_default, length-map}
use Rattle.std.proofs.lemmas.List.Elements.{All-filter}
use Rattle.std.proofs.lemmas.List.Kept.{AllPairs-filter}
use Rattle.std.proofs.lemmas.Option.{slice_get_cases}
use Rattle.spin_place.specs.declared.binding.Binding.{Binding}
use Rattle.spin_place.specs.Precedence.{must_precede, numbers_of, MustPrecede, HasLawfulOrder}
use Rattle.spin_place.proofs.NumberLists.{times, times-cons, times-permutation, no_more, IsPermutation-from_times}
use Rattle.spin_place.proofs.Precedences.{MustPrecede-more}

-- a test of what is made of the elements may come before or after the making
kept : {A B : Type 0} (f : A → B) (b : Bool) (x : A) (xs : List A) (ys : List B) → map f xs ≡ ys → map f (cond b (x ∷ xs) xs) ≡ cond b (f x ∷ ys) ys
kept f true x xs ys e = ap (λ l. f x ∷ l) e
kept f false x xs ys e = e

pub map-filter : {A B : Type 0} (f : A → B) (p : B → Bool) (xs : List A) → map f (filter (λ x. p (f x)) xs) ≡ filter p (map f xs)
map-filter f p [] = refl
map-filter f p (x ∷ xs) = kept f (p (f x)) x (filter (λ x. p (f x)) xs) (filter p (map f xs)) (map-filter f p xs)

-- how often a number stands in what passes a test
times-kept : (p : ℕ → Bool) (n x : ℕ) (xs kept : List ℕ) (b : Bool) → p x ≡ b → times n kept ≡ cond (p n) (times n xs) 0
    → times n (cond b (x ∷ kept) kept) ≡ cond (p n) (times n (x ∷ xs)) 0
times-kept p n x xs kept true is e =
    elim (cases_eq x n) [
      | inl same ↦
          let passes : p n ≡ true = sym (ap p same) ∙ is in
          let left = times-cons n x kept in
          let right = times-cons n x xs in
          left ∙ ap (λ k. cond (eqb x n) 1 0 + k) (e ∙ ap (λ b. cond b (times n xs) 0) passes) ∙ sym right ∙ sym (ap (λ b. cond b (times n (x ∷ xs)) 0) passes)
      | inr apart ↦
          let left : times n (x ∷ kept) ≡ times n kept = omega (arith, times-cons n x kept, no_more n x apart) in
          let right : times n (x ∷ xs) ≡ times n xs = omega (arith, times-cons n x xs, no_more n x apart) in
          left ∙ e ∙ sym (ap (λ k. cond (p n) k 0) right)
    ]
times-kept p n x xs kept false is e =
    elim (cases_eq x n) [
      | inl same ↦
          let fails : p n ≡ false = sym (ap p same) ∙ is in
          e ∙ ap (λ b. cond b (times n xs) 0) fails ∙ sym (ap (λ b. cond b (times n (x ∷ xs)) 0) fails)
      | inr apart ↦
          let right : times n (x ∷ xs) ≡ times n xs = omega (arith, times-cons n x xs, no_more n x apart) in
          e ∙ sym (ap (λ k. cond (p n) k 0) right)
    ]

times-none : (b : Bool) (n : ℕ) → n ≡ cond b n n
times-none true n = refl
times-none false n = refl

pub times-filter : (p : ℕ → Bool) (n : ℕ) (xs : List ℕ) → times n (filter p xs) ≡ cond (p n) (times n xs) 0
times-filter p n [] = times-none (p n) 0
times-filter p n (x ∷ xs) = times-kept p n x xs (filter p xs) (p x) refl (times-filter p n xs)

-- two orders of the same numbers are such also of those that pass a test
pub IsPermutation-filter : (p : ℕ → Bool) (xs ys : List ℕ) → IsPermutation xs ys → IsPermutation (filter p xs) (filter p ys)
IsPermutation-filter p xs ys h =
    IsPermutation-from_times (filter p xs) (filter p ys)
    (λ n. times-filter p n xs ∙ ap (λ k. cond (p n) k 0) (sym (times-permutation n xs ys h)) ∙ sym (times-filter p n ys))

-- what is left of bindings that have a lawful order has one
pub HasLawfulOrder-filter : (p : ℕ → Bool) (bs : List Binding) → HasLawfulOrder bs → HasLawfulOrder (filter (λ b. p b.number) bs)
HasLawfulOrder-filter p bs (ns, (permutation, pairs)) =
    let left = filter (λ (b : Binding). p b.number) bs in
    let within : All (Contains bs) left = All-filter (λ (b : Binding). p b.number) (Contains bs) bs (λ k d l. (k, l, get_or_default bs k (get_or bs k d) d l)) in
    let numbers : numbers_of left ≡ filter p (numbers_of bs) = map-filter (λ (b : Binding). b.number) p bs in
    let apart = AllPairs-filter (λ m n. MustPrecede bs n m → ⊥) p ns pairs in (
      filter p ns,
      (subst (λ l. IsPermutation l (filter p ns)) (sym numbers) (IsPermutation-filter p (numbers_of bs) ns permutation), λ i j d l h must. apart i j d l h (MustPrecede-more bs left within _ _ must)),
    )

-- bindings with other handlers and guards have the same orders
pub record Alike (f : Binding → Binding) : Type 0 where
  pub number : (b : Binding) → (f b).number ≡ b.number
  pub precedence : (b c : Binding) → must_precede (f b) (f c) ≡ must_precede b c

pub numbers-map : (f : Binding → Binding) → ((b : Binding) → (f b).number ≡ b.number) → (bs : List Binding) → numbers_of (map f bs) ≡ numbers_of bs
numbers-map f same [] = refl
numbers-map f same (b ∷ bs) = let e = same b in let r = numbers-map f same bs in cc

-- an element of a mapped list is made of one of the list
made_of : (f : Binding → Binding) (bs : List Binding) (k : ℕ) (x : Binding) → k < length (map f bs) → get_or (map f bs) k x ≡ x
    → (b : Binding) × (k < length bs) × (get_or bs k b ≡ b) × (f b ≡ x)
made_of f bs k x l e =
    elim (slice_get_cases bs k).1 [
      | inl (b, inside, read, at) ↦ (b, inside, at, sym (ap f at) ∙ sym (get_or-map f bs k b x inside) ∙ e)
      | inr (past, none) ↦ absurd (omega (arith, length-map bs f))
    ]

MustPrecede-map : (f : Binding → Binding) → Alike f → (bs : List Binding) (m n : ℕ) → MustPrecede (map f bs) m n → MustPrecede bs m n
MustPrecede-map f alike bs m n (k, x, l, e, (is, (j, y, i, g, (is', h)))) =
    let first = made_of f bs k x l e in
    let second = made_of f bs j y i g in
    let b = first.0 in
    let c = second.0 in
    let must : must_precede x y ≡ must_precede b c = sym (ap (λ u. must_precede u y) first.3) ∙ sym (ap (λ v. must_precede (f b) v) second.3) ∙ alike.precedence b c in
    let number : b.number ≡ m = sym (alike.number b) ∙ ap (λ (u : Binding). u.number) first.3 ∙ is in
    let number' : c.number ≡ n = sym (alike.number c) ∙ ap (λ (u : Binding). u.number) second.3 ∙ is' in
    (k, b, first.1, first.2, (number, (j, c, second.1, second.2, (number', subst IsTrue must h))))

pub HasLawfulOrder-map : (f : Binding → Binding) → Alike f → (bs : List Binding) → HasLawfulOrder bs → HasLawfulOrder (map f bs)
HasLawfulOrder-map f alike bs (ns, (permutation, pairs)) =
    let numbers = numbers-map f alike.number bs in
    (ns, (subst (λ l. IsPermutation l ns) (sym numbers) permutation, λ i j d l h must. pairs i j d l h (MustPrecede-map f alike bs _ _ must)))
