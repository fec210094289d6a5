-- Numbers of which each must precede the next, and the last the first.
use Rattle.std.proofs.Common.{◌≡◌, ℕ, zero, suc, ◌+◌, ◌<◌, ◌≤◌, List, [], ◌∷◌, ◌++◌, length, get_or, take, drop, sym, ap, subst, ◌∙◌, inl, inr, arith}
use Rattle.std.specs.List.{All}
use Rattle.std.specs.List.Sorted.{IsPermutation}
use Rattle.std.proofs.lemmas.List.{append-nil, get_or_default, drop_more, take-append-drop}
use Rattle.std.proofs.lemmas.Bool.{cases_eq, cases_lt}
use Rattle.std.proofs.lemmas.List.Sorted.{IsPermutation-append_comm, length_permutation}
use Rattle.spin_place.specs.Orders.{AreDistinct, Leads, IsRing, IsCycleOf}
use Rattle.spin_place.proofs.NumberLists.{AllPairs-head, AllPairs-tail, AllPairs-cons, times, times-cons, times-same, times-permutation, times_from_Contains, found, one_more, no_more}

-- each number of the list must precede the next one
abbrev pub IsPath : (ℕ → ℕ → Type 0) → List ℕ → Type 0
IsPath R [] = Unit {0}
IsPath R (n ∷ []) = Unit {0}
IsPath R (n ∷ (m ∷ ns)) = R n m × IsPath R (m ∷ ns)

module _ (R : ℕ → ℕ → Type 0) where
  Leads-parts : (a b : ℕ) (xs : List ℕ) (y : ℕ) (ys : List ℕ) → Leads R a (xs ++ y ∷ ys) b → Leads R a xs y × Leads R y ys b
  Leads-parts a b [] y ys h = (h.0, h.1)
  Leads-parts a b (x ∷ xs) y ys h =
      let rest = Leads-parts x b xs y ys h.1 in
      ((h.0, rest.0), rest.1)

  Leads-append : (a b : ℕ) (xs : List ℕ) (y : ℕ) (ys : List ℕ) → Leads R a xs y → Leads R y ys b → Leads R a (xs ++ y ∷ ys) b
  Leads-append a b [] y ys h g = (h, g)
  Leads-append a b (x ∷ xs) y ys h g = (h.0, Leads-append x b xs y ys h.1 g)

  -- a ring may begin at each of its numbers
  pub IsRing-turn : (k : ℕ) (ns : List ℕ) → k < length ns → IsRing R ns → IsRing R (drop k ns ++ take k ns)
  IsRing-turn zero ns l h = subst (λ ms. IsRing R ms) (sym (append-nil ns)) h
  IsRing-turn (suc k) [] l h = absurd (omega arith)
  IsRing-turn (suc k) (n ∷ ns) l h =
      let split = drop_more ns k 0 (omega arith) in
      let whole : take k ns ++ get_or ns k 0 ∷ drop (k + 1) ns ≡ ns = ap (λ ms. take k ns ++ ms) (sym split) ∙ take-append-drop k ns in
      let parts = Leads-parts n n (take k ns) (get_or ns k 0) (drop (k + 1) ns) (subst (λ ms. Leads R n ms n) (sym whole) h) in
      subst (λ ms. IsRing R (ms ++ n ∷ take k ns)) (sym split) (Leads-append (get_or ns k 0) (get_or ns k 0) (drop (k + 1) ns) n (take k ns) parts.1 parts.0)

  -- a path of which a number must precede the first one has a ring at its front
  pub IsPath-leads : (n : ℕ) (ns : List ℕ) (k last : ℕ) → k < suc (length ns) → IsPath R (n ∷ ns) → R (get_or (n ∷ ns) k 0) last → Leads R n (take k ns) last
  IsPath-leads n ns zero last l h r = r
  IsPath-leads n [] (suc k) last l h r = absurd (omega arith)
  IsPath-leads n (m ∷ ns) (suc k) last l h r = (h.0, IsPath-leads m ns k last (omega arith) h.1 r)

-- distinct numbers are those of which none stands more than once
pub times-distinct : (ns : List ℕ) → AreDistinct ns → (n : ℕ) → times n ns ≤ 1
times-distinct [] h n = omega arith
times-distinct (m ∷ ns) h n =
    elim (cases_eq m n) [
      | inl e ↦
          elim (cases_lt 0 (times n ns)) [
            | inl some ↦
                let at = found n ns some in
                absurd (AllPairs-head (λ a b. a ≡ b → ⊥) m ns h at.0 n at.1 (e ∙ sym at.2))
            | inr none ↦ omega (arith, times-cons n m ns, one_more n m e)
          ]
      | inr ne ↦ omega (arith, times-cons n m ns, times-distinct ns (AllPairs-tail (λ a b. a ≡ b → ⊥) m ns h) n, no_more n m ne)
    ]

pub AreDistinct-from_times : (ns : List ℕ) → ((n : ℕ) → times n ns ≤ 1) → AreDistinct ns
AreDistinct-from_times [] h = λ i j d l m. absurd (omega arith)
AreDistinct-from_times (n ∷ ns) h =
    let first : All (λ m. n ≡ m → ⊥) ns = λ k d l e. omega (arith, h n, times-same n ns, times_from_Contains n ns (k, l, get_or_default ns k n d l ∙ sym e)) in
    AllPairs-cons (λ a b. a ≡ b → ⊥) n ns first (AreDistinct-from_times ns (λ m. omega (arith, h m, times-cons m n ns)))

pub AreDistinct-permutation : (ms ns : List ℕ) → IsPermutation ms ns → AreDistinct ms → AreDistinct ns
AreDistinct-permutation ms ns p h = AreDistinct-from_times ns (λ n. omega (arith, times-permutation n ms ns p, times-distinct ms h n))

-- a ring of several distinct numbers that is turned until the least comes first is a cycle
pub IsCycleOf-turn : (R : ℕ → ℕ → Type 0) (ns ms : List ℕ) (k : ℕ) → k < length ns → ms ≡ drop k ns ++ take k ns
    → 2 ≤ length ns → AreDistinct ns → IsRing R ns → All (λ n. get_or ms 0 0 ≤ n) ms → IsCycleOf R ms
IsCycleOf-turn R ns ms k l e several distinct ring least =
    let whole : take k ns ++ drop k ns ≡ ns = take-append-drop k ns in
    let turned : IsPermutation ns ms = subst (λ xs. IsPermutation xs ms) whole (subst (λ xs. IsPermutation (take k ns ++ drop k ns) xs) (sym e) (IsPermutation-append_comm (take k ns) (drop k ns))) in
    record {
      several = omega (arith, length_permutation ns ms turned);
      distinct = AreDistinct-permutation ns ms turned distinct;
      least_first = least;
      closed = subst (λ xs. IsRing R xs) (sym e) (IsRing-turn R k ns l ring);
    }
