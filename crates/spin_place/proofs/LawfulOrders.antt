-- Lawful orders, and cycles among numbers of which some must precede others.
use Rattle.std.proofs.Common.{◌≡◌, ℕ, suc, ◌<◌, ◌≤◌, List, [], ◌∷◌, length, get_or, sym, ap, subst, ◌∙◌, inl, inr, ◌⊎◌, arith}
use Rattle.std.specs.List.{All, AllPairs, Contains, remove}
use Rattle.std.specs.List.Sorted.{IsPermutation}
use Rattle.std.proofs.lemmas.Bool.{cases_eq, cases_order}
use Rattle.std.proofs.lemmas.List.{get_or_default, nil_from_length}
use Rattle.std.proofs.lemmas.List.Elements.{All-cons, All-head, All-tail}
use Rattle.std.proofs.lemmas.List.Sorted.{IsPermutation-refl, IsPermutation-sym, IsPermutation-trans, IsPermutation-cons, length_permutation, All-permutation, Contains-permutation}
use Rattle.spin_place.specs.Orders.{AreDistinct, IsLawfulOrder, IsLess, IsLeastOrder, Leads, IsRing, IsCycleOf}
use Rattle.spin_place.proofs.NumberLists.{AllPairs-head, AllPairs-tail, AllPairs-cons, Contains-here, Contains-cons, to_front, IsPermutation-uncons}

-- one of two different lists is less than the other at most one way round
pub IsLess-one_way : (ms ns : List ℕ) → IsLess ms ns → IsLess ns ms → ⊥
IsLess-one_way [] ns h g = h
IsLess-one_way (m ∷ ms) [] h g = h
IsLess-one_way (m ∷ ms) (n ∷ ns) (inl h) (inl g) = omega arith
IsLess-one_way (m ∷ ms) (n ∷ ns) (inl h) (inr g) = let e : n ≡ m = g.0 in omega arith
IsLess-one_way (m ∷ ms) (n ∷ ns) (inr h) (inl g) = let e : m ≡ n = h.0 in omega arith
IsLess-one_way (m ∷ ms) (n ∷ ns) (inr h) (inr g) = IsLess-one_way ms ns h.1 g.1

-- no more distinct numbers than those that they are taken from
pub length-distinct : (xs ys : List ℕ) → AreDistinct xs → All (Contains ys) xs → length xs ≤ length ys
length-distinct [] ys apart within = omega arith
length-distinct (x ∷ xs) ys apart within =
    let at = All-head (Contains ys) x xs within in
    let front = to_front ys x at in
    let others = λ (k : ℕ) (d : ℕ) (l : k < length xs).
    elim (Contains-cons (get_or xs k d) x (remove ys at.0) (Contains-permutation ys (x ∷ remove ys at.0) (get_or xs k d) front (within (suc k) d (omega arith))))
    as (λ _. Contains (remove ys at.0) (get_or xs k d)) [
      | inl e ↦ absurd (AllPairs-head (λ m n. m ≡ n → ⊥) x xs apart k d l e)
      | inr h ↦ h
    ] in
    omega (arith, length-distinct xs (remove ys at.0) (AllPairs-tail (λ m n. m ≡ n → ⊥) x xs apart) others, length_permutation ys (x ∷ remove ys at.0) front)

module _ (R : ℕ → ℕ → Type 0) where
  -- there is one order of no numbers
  pub IsLeastOrder-nil : IsLeastOrder R [] []
  IsLeastOrder-nil =
      ((IsPermutation-refl [], λ i j d l m. absurd (omega arith)), λ ms h. inl (nil_from_length ms (length_permutation [] ms h.0)))

  -- the same numbers in another order have the same least order
  pub IsLeastOrder-permutation : (numbers others ns : List ℕ) → IsPermutation numbers others → IsLeastOrder R numbers ns → IsLeastOrder R others ns
  IsLeastOrder-permutation numbers others ns same h =
      ((IsPermutation-trans others numbers ns (IsPermutation-sym numbers others same) h.0.0, h.0.1), λ ms g. h.1 ms (IsPermutation-trans numbers others ms same g.0, g.1))

  -- a lawful order begins with a number that none of the numbers must precede
  head_is_ready : (irreflexive : (n : ℕ) → R n n → ⊥) (numbers ms : List ℕ) (m : ℕ) → IsLawfulOrder R numbers (m ∷ ms) → All (λ z. R z m → ⊥) numbers
  head_is_ready irreflexive numbers ms m h =
      All-permutation (λ z. R z m → ⊥) (m ∷ ms) numbers (IsPermutation-sym numbers (m ∷ ms) h.0) (All-cons (λ z. R z m → ⊥) m ms (irreflexive m) (AllPairs-head (λ a b. R b a → ⊥) m ms h.1))

  -- the rest of an order that begins with x is an order of the other numbers
  tail_is_lawful : (numbers rest ms : List ℕ) (x : ℕ) → IsPermutation numbers (x ∷ rest) → IsLawfulOrder R numbers (x ∷ ms) → IsLawfulOrder R rest ms
  tail_is_lawful numbers rest ms x front h =
      (IsPermutation-uncons x rest ms (IsPermutation-trans (x ∷ rest) numbers (x ∷ ms) (IsPermutation-sym numbers (x ∷ rest) front) h.0), AllPairs-tail (λ a b. R b a → ⊥) x ms h.1)

  -- the least number that is ready, and then the least order of the others
  pub IsLeastOrder-cons : (irreflexive : (n : ℕ) → R n n → ⊥) (numbers rest ns : List ℕ) (x : ℕ) → IsPermutation numbers (x ∷ rest)
      → All (λ z. R z x → ⊥) numbers
      → ((y : ℕ) → Contains numbers y → All (λ z. R z y → ⊥) numbers → x ≤ y)
      → IsLeastOrder R rest ns → IsLeastOrder R numbers (x ∷ ns)
  IsLeastOrder-cons irreflexive numbers rest ns x front ready least h =
      let all = IsPermutation-trans numbers (x ∷ rest) (x ∷ ns) front (IsPermutation-cons x rest ns h.0.0) in
      let later = All-tail (λ z. R z x → ⊥) x ns (All-permutation (λ z. R z x → ⊥) numbers (x ∷ ns) all ready) in
      ((all, AllPairs-cons (λ a b. R b a → ⊥) x ns later h.0.1), compare irreflexive numbers rest ns x front least h)
    where
      compare : (irreflexive : (n : ℕ) → R n n → ⊥) (numbers rest ns : List ℕ) (x : ℕ) → IsPermutation numbers (x ∷ rest)
          → ((y : ℕ) → Contains numbers y → All (λ z. R z y → ⊥) numbers → x ≤ y)
          → IsLeastOrder R rest ns → (ms : List ℕ) → IsLawfulOrder R numbers ms → (ms ≡ x ∷ ns) ⊎ IsLess (x ∷ ns) ms
      compare irreflexive numbers rest ns x front least h [] g =
          absurd (omega (arith, length_permutation numbers [] g.0, length_permutation numbers (x ∷ rest) front))
      compare irreflexive numbers rest ns x front least h (m ∷ ms) g =
          let low : x ≤ m = least m (Contains-permutation (m ∷ ms) numbers m (IsPermutation-sym numbers (m ∷ ms) g.0) (Contains-here m ms)) (head_is_ready irreflexive numbers ms m g) in
          elim (cases_eq x m) [
            | inl e ↦
                let same : IsLawfulOrder R numbers (x ∷ ms) = subst (λ n. IsLawfulOrder R numbers (n ∷ ms)) (sym e) g in
                elim (h.1 ms (tail_is_lawful numbers rest ms x front same)) [
                  | inl f ↦ inl (cc)
                  | inr f ↦ inr (inr (e, f))
                ]
            | inr ne ↦ inr (inl (omega arith))
          ]

  -- what must precede another stands before it in a lawful order
  stands_before : (irreflexive : (n : ℕ) → R n n → ⊥) (ns : List ℕ) → AllPairs (λ m n. R n m → ⊥) ns
      → (first last : ℕ) → R first last
      → (i j : ℕ) → i < length ns → j < length ns → get_or ns i first ≡ first → get_or ns j last ≡ last → i < j
  stands_before irreflexive ns lawful first last h i j l m e f =
      let at_last : get_or ns j first ≡ last = get_or_default ns j first last m ∙ f in
      elim (cases_order i j) [
        | inl same ↦
            let one : first ≡ last = sym e ∙ ap (λ k. get_or ns k first) same ∙ at_last in
            absurd (irreflexive last (subst (λ n. R n last) one h))
        | inr (inl before) ↦ before
        | inr (inr after) ↦
            absurd (lawful j i first after l (subst (λ n. R n (get_or ns j first)) (sym e) (subst (λ n. R first n) (sym at_last) h)))
      ]

  -- what leads to another stands before it in a lawful order
  leads_onward : (irreflexive : (n : ℕ) → R n n → ⊥) (ns : List ℕ) → AllPairs (λ m n. R n m → ⊥) ns
      → ((m n : ℕ) → R m n → Contains ns m × Contains ns n)
      → (first : ℕ) (middle : List ℕ) (last : ℕ) → Leads R first middle last
      → (i j : ℕ) → i < length ns → j < length ns → get_or ns i first ≡ first → get_or ns j last ≡ last → i < j
  leads_onward irreflexive ns lawful within first [] last h i j l m e f =
      stands_before irreflexive ns lawful first last h i j l m e f
  leads_onward irreflexive ns lawful within first (n ∷ middle) last h i j l m e f =
      let at = (within first n h.0).1 in
      let one = stands_before irreflexive ns lawful first n h.0 i at.0 l at.1 e at.2 in
      let rest = leads_onward irreflexive ns lawful within n middle last h.1 at.0 j at.1 m at.2 f in
      omega arith

  ring_unlawful : (irreflexive : (n : ℕ) → R n n → ⊥) (numbers cycle : List ℕ)
      → ((m n : ℕ) → R m n → Contains numbers m × Contains numbers n)
      → IsRing R cycle → (ns : List ℕ) → IsLawfulOrder R numbers ns → ⊥
  ring_unlawful irreflexive numbers [] within c ns h = c
  ring_unlawful irreflexive numbers (n ∷ []) within c ns h = irreflexive n c
  ring_unlawful irreflexive numbers (n ∷ (m ∷ ms)) within c ns h =
      let inside : (a b : ℕ) → R a b → Contains ns a × Contains ns b = λ a b r. (Contains-permutation numbers ns a h.0 (within a b r).0, Contains-permutation numbers ns b h.0 (within a b r).1) in
      let at = (inside n m c.0).0 in
      let turn = leads_onward irreflexive ns h.1 inside n (m ∷ ms) n c at.0 at.0 at.1 at.1 at.2 at.2 in
      omega arith

  -- where there is a cycle there is no lawful order
  pub IsCycleOf-unlawful : (irreflexive : (n : ℕ) → R n n → ⊥) (numbers cycle : List ℕ)
      → ((m n : ℕ) → R m n → Contains numbers m × Contains numbers n)
      → IsCycleOf R cycle → (ns : List ℕ) → IsLawfulOrder R numbers ns → ⊥
  IsCycleOf-unlawful irreflexive numbers cycle within c ns h = ring_unlawful irreflexive numbers cycle within c.closed ns h
