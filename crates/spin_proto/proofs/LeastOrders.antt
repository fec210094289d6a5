-- Where there is a lawful order there is a least one.
use Rattle.std.proofs.Common.{◌≡◌, ℕ, zero, suc, ◌≤◌, Bool, true, false, List, [], ◌∷◌, length, refl, sym, subst, inl, inr, ◌⊎◌, arith}
use Rattle.std.specs.Prelude.{IsTrue}
use Rattle.std.specs.List.{All, Any, Contains, remove}
use Rattle.std.proofs.lemmas.Bool.{cases_eq, cases_lt}
use Rattle.std.proofs.lemmas.List.{nil_from_length}
use Rattle.std.proofs.lemmas.List.Elements.{All-cons, All-head, All-tail}
use Rattle.std.proofs.lemmas.List.Quantifiers.{all_pairs_remove}
use Rattle.std.proofs.lemmas.List.Sorted.{IsPermutation-sym, IsPermutation-trans, length_permutation, All-permutation, Contains-permutation}
use Rattle.spin_place.specs.declared.binding.Binding.{Binding}
use Rattle.spin_place.specs.Orders.{IsLawfulOrder, IsLeastOrder}
use Rattle.spin_place.specs.Precedence.{must_precede, numbers_of, MustPrecede, IsTheOrder, HasLawfulOrder}
use Rattle.spin_place.proofs.NumberLists.{AllPairs-head, Contains-here, Contains-there, Contains-cons, to_front, IsPermutation-uncons}
use Rattle.spin_place.proofs.LawfulOrders.{IsLeastOrder-nil, IsLeastOrder-cons}
use Rattle.spin_place.proofs.Precedences.{MustPrecede-irreflexive}

-- it holds or it doesn't
abbrev Decided : Type 0 → Type 0
Decided P = P ⊎ (P → ⊥)

decided_not : {P : Type 0} → Decided P → Decided (P → ⊥)
decided_not (inl p) = inr (λ fails. fails p)
decided_not (inr fails) = inl fails

decided_both : {P Q : Type 0} → Decided P → Decided Q → Decided (P × Q)
decided_both (inl p) (inl q) = inl (p, q)
decided_both (inl p) (inr fails) = inr (λ h. fails h.1)
decided_both (inr fails) q = inr (λ h. fails h.0)

module _ {X : Type 0} (P : X → Type 0) (decide : (x : X) → Decided (P x)) where
  none_of : (x : X) (xs : List X) → (P x → ⊥) → (Any P xs → ⊥) → Any P (x ∷ xs) → ⊥
  none_of x xs fails none (zero, y, l, e, p) = fails (subst P (sym e) p)
  none_of x xs fails none (suc k, y, l, e, p) = none (k, y, omega arith, e, p)

  decided_any : (xs : List X) → Decided (Any P xs)
  decided_any [] = inr (λ h. absurd (omega (arith, h.2)))
  decided_any (x ∷ xs) =
      elim (decide x) [
        | inl p ↦ inl (0, x, omega arith, refl, p)
        | inr fails ↦
            elim (decided_any xs) [
              | inl (k, y, l, e, p) ↦ inl (suc k, y, omega arith, e, p)
              | inr none ↦ inr (none_of x xs fails none)
            ]
      ]

  decided_all : (xs : List X) → Decided (All P xs)
  decided_all [] = inl (λ k d l. absurd (omega arith))
  decided_all (x ∷ xs) =
      elim (decide x) [
        | inl p ↦
            elim (decided_all xs) [
              | inl rest ↦ inl (All-cons P x xs p rest)
              | inr fails ↦ inr (λ h. fails (All-tail P x xs h))
            ]
        | inr fails ↦ inr (λ h. fails (All-head P x xs h))
      ]

decided_number : (m n : ℕ) → Decided (m ≡ n)
decided_number m n = cases_eq m n

decided_true : (b : Bool) → Decided (IsTrue b)
decided_true true = inl refl
decided_true false = inr (λ e. cc)

decided_precedence : (bs : List Binding) (m n : ℕ) → Decided (MustPrecede bs m n)
decided_precedence bs m n =
    decided_any (λ (b : Binding). (b.number ≡ m) × Any (λ (c : Binding). (c.number ≡ n) × IsTrue (must_precede b c)) bs)
    (λ b. decided_both (decided_number b.number m)
    (decided_any (λ (c : Binding). (c.number ≡ n) × IsTrue (must_precede b c)) (λ c. decided_both (decided_number c.number n) (decided_true (must_precede b c))) bs))
    bs

-- the least number of a list of which this holds
abbrev LeastOf : (ℕ → Type 0) → List ℕ → Type 0
LeastOf P xs = (x : ℕ) × Contains xs x × P x × ((z : ℕ) → Contains xs z → P z → x ≤ z)

module _ (P : ℕ → Type 0) (decide : (n : ℕ) → Decided (P n)) where
  -- it holds of the first, and of none less that comes after
  first_least : (x : ℕ) (xs : List ℕ) → P x → ((z : ℕ) → Contains xs z → P z → x ≤ z) → LeastOf P (x ∷ xs)
  first_least x xs p rest = (
    x,
    Contains-here x xs,
    p,
    λ z at q. elim (Contains-cons z x xs at) [
      | inl e ↦ omega arith
      | inr later ↦ rest z later q
    ],
  )

  later_least : (x : ℕ) (xs : List ℕ) → (h : LeastOf P xs) → (P x → h.0 ≤ x) → LeastOf P (x ∷ xs)
  later_least x xs (m, at, p, least) first = (
    m,
    Contains-there m x xs at,
    p,
    λ z in_all q. elim (Contains-cons z x xs in_all) [
      | inl e ↦ above x z m e (first (subst P (sym e) q))
      | inr later ↦ least z later q
    ],
  )
    where
      above : (x z m : ℕ) → x ≡ z → m ≤ x → m ≤ z
      above x z m e l = omega arith

  least_of : (xs : List ℕ) (y : ℕ) → Contains xs y → P y → LeastOf P xs
  least_of [] y at p = absurd (omega (arith, at.1))
  least_of (x ∷ xs) y at p =
      elim (decided_any P decide xs) [
        | inl (k, w, l, e, q) ↦
            let rest = least_of xs w (k, l, e) q in
            elim (decide x) [
              | inl first ↦
                  elim (cases_lt x rest.0) [
                    | inl less ↦ first_least x xs first (λ z later r. let above = rest.3 z later r in omega arith)
                    | inr more ↦ later_least x xs rest (λ _. more)
                  ]
              | inr fails ↦ later_least x xs rest (λ h. absurd (fails h))
            ]
        | inr none ↦
            elim (Contains-cons y x xs at) [
              | inl e ↦ first_least x xs (subst P (sym e) p) (λ z later r. absurd (none (later.0, z, later.1, later.2, r)))
              | inr later ↦ absurd (none (later.0, y, later.1, later.2, p))
            ]
      ]

module _ (R : ℕ → ℕ → Type 0) (irreflexive : (n : ℕ) → R n n → ⊥) (decide : (m n : ℕ) → Decided (R m n)) where
  -- none of the numbers must precede it
  abbrev IsReady : List ℕ → ℕ → Type 0
  IsReady numbers y = All (λ z. R z y → ⊥) numbers

  least_ready : (numbers ms : List ℕ) (m : ℕ) → IsLawfulOrder R numbers (m ∷ ms) → LeastOf (IsReady numbers) numbers
  least_ready numbers ms m h =
      let back = IsPermutation-sym numbers (m ∷ ms) h.0 in
      least_of (IsReady numbers) (λ y. decided_all (λ z. R z y → ⊥) (λ z. decided_not (decide z y)) numbers) numbers m
      (Contains-permutation (m ∷ ms) numbers m back (Contains-here m ms))
      (All-permutation (λ z. R z m → ⊥) (m ∷ ms) numbers back (All-cons (λ z. R z m → ⊥) m ms (irreflexive m) (AllPairs-head (λ a b. R b a → ⊥) m ms h.1)))

  least_order : (n : ℕ) (numbers ms : List ℕ) → length numbers ≡ n → IsLawfulOrder R numbers ms → (ns : List ℕ) × IsLeastOrder R numbers ns
  least_order zero numbers ms size h =
      let empty = nil_from_length numbers size in
      ([], subst (λ xs. IsLeastOrder R xs []) (sym empty) (IsLeastOrder-nil R))
  least_order (suc n) numbers [] size h = absurd (omega (arith, length_permutation numbers [] h.0))
  least_order (suc n) numbers (m ∷ ms) size h =
      let least = least_ready numbers ms m h in
      let x = least.0 in
      let rest = remove numbers least.1.0 in
      let front = to_front numbers x least.1 in
      let at = Contains-permutation numbers (m ∷ ms) x h.0 least.1 in
      let others = remove (m ∷ ms) at.0 in
      let lawful : IsLawfulOrder R rest others = (
        IsPermutation-uncons x rest others
            (IsPermutation-trans (x ∷ rest) numbers (x ∷ others) (IsPermutation-sym numbers (x ∷ rest) front) (IsPermutation-trans numbers (m ∷ ms) (x ∷ others) h.0 (to_front (m ∷ ms) x at))),
        all_pairs_remove (λ a b. R b a → ⊥) (m ∷ ms) at.0 at.1 h.1,
      ) in
      let later = least_order n rest others (omega (arith, length_permutation numbers (x ∷ rest) front)) lawful in
      (x ∷ later.0, IsLeastOrder-cons R irreflexive numbers rest later.0 x front least.2 least.3 later.1)

-- bindings that have a lawful order have the order
pub the_order : (bs : List Binding) → HasLawfulOrder bs → (ns : List ℕ) × IsTheOrder bs ns
the_order bs (ms, h) =
    least_order (MustPrecede bs) (MustPrecede-irreflexive bs) (decided_precedence bs) (length (numbers_of bs)) (numbers_of bs) ms refl h
