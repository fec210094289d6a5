-- Going back from a binding to one that must precede it, again and again.
use Rattle.std.proofs.Common.{◌≡◌, ℕ, ◌+◌, ◌<◌, List, [], ◌∷◌, length, get_or, take, add-one, sym, ap, subst, ◌∙◌, arith}
use Rattle.std.specs.Prelude.{IsTrue}
use Rattle.std.specs.List.{All, Contains}
use Rattle.std.proofs.lemmas.List.{get_or-map, get_or_default, length-map}
use Rattle.std.proofs.lemmas.List.Elements.{All-cons, Contains-get_or}
use Rattle.spin_place.specs.declared.binding.Binding.{Binding}
use Rattle.spin_place.specs.declared.candidate.Candidate.{Candidate}
use Rattle.spin_place.specs.Inner.Candidates.{bindings_of, numbers_left}
use Rattle.spin_place.specs.Orders.{AreDistinct, IsRing}
use Rattle.spin_place.specs.Precedence.{must_precede, MustPrecede}
use Rattle.spin_place.proofs.NumberLists.{AllPairs-cons, AllPairs-take}
use Rattle.spin_place.proofs.LawfulOrders.{length-distinct}
use Rattle.spin_place.proofs.Precedences.{MustPrecede-from}
use Rattle.spin_place.proofs.Rings.{IsPath, IsPath-leads}

-- from the candidate at this place over the numbers of the path, each must precede the next
pub record IsWalk (rest : List Candidate) (at : ℕ) (path : List ℕ) : Type 0 where
  pub there : at < length rest
  pub steps : IsPath (MustPrecede (bindings_of rest)) (get_or (numbers_left rest) at 0 ∷ path)
  pub distinct : AreDistinct (get_or (numbers_left rest) at 0 ∷ path)
  pub within : All (Contains (numbers_left rest)) path

-- the candidate at a place is one of the bindings
pub Contains-binding : (rest : List Candidate) (at : ℕ) (x : Candidate) → at < length rest → x ≡ get_or rest at x → Contains (bindings_of rest) x.binding.now
Contains-binding rest at x l e =
    (at, omega (arith, length-map rest (λ (c : Candidate). c.binding.now)), get_or-map (λ (c : Candidate). c.binding.now) rest at x x.binding.now l ∙ ap (λ (c : Candidate). c.binding.now) (sym e))

pub number_at : (rest : List Candidate) (at : ℕ) (x : Candidate) → at < length rest → x ≡ get_or rest at x → get_or (numbers_left rest) at 0 ≡ x.binding.now.number
number_at rest at x l e =
    let here : at < length (bindings_of rest) = omega (arith, length-map rest (λ (c : Candidate). c.binding.now)) in
    get_or-map (λ (b : Binding). b.number) (bindings_of rest) at x.binding.now 0 here
    ∙ ap (λ (b : Binding). b.number) (get_or-map (λ (c : Candidate). c.binding.now) rest at x x.binding.now l ∙ ap (λ (c : Candidate). c.binding.now) (sym e))

-- a walk begins at any candidate
pub IsWalk-nil : (rest : List Candidate) (at : ℕ) → at < length rest → IsWalk rest at []
IsWalk-nil rest at l = record {
  there = l;
  steps = tt;
  distinct = λ i j d low high. absurd (omega arith);
  within = λ k d low. absurd (omega arith);
}

-- no walk is longer than there are candidates
pub length-walk : (rest : List Candidate) (at : ℕ) (path : List ℕ) → IsWalk rest at path → length path < length rest
length-walk rest at path w =
    let l = w.there in
    let size = length-map (bindings_of rest) (λ (b : Binding). b.number) ∙ length-map rest (λ (c : Candidate). c.binding.now) in
    let here : Contains (numbers_left rest) (get_or (numbers_left rest) at 0) = Contains-get_or (numbers_left rest) at 0 (omega (arith, size)) in
    omega (
      arith,
      length-distinct (get_or (numbers_left rest) at 0 ∷ path) (numbers_left rest) w.distinct
          (All-cons (Contains (numbers_left rest)) (get_or (numbers_left rest) at 0) path here w.within),
      size,
    )

module _ (rest : List Candidate) (at to : ℕ) (path : List ℕ) (x y : Candidate) (w : IsWalk rest at path) (is : x ≡ get_or rest at x)
    (l : to < length rest) (is' : y ≡ get_or rest to y) (h : IsTrue (must_precede y.binding.now x.binding.now)) where
  before : MustPrecede (bindings_of rest) y.binding.now.number x.binding.now.number
  before =
      MustPrecede-from (bindings_of rest) y.binding.now x.binding.now (Contains-binding rest to y l is') (Contains-binding rest at x w.there is) h

  -- what the walk so far keeps, by the number of its first candidate
  whole : (number : ℕ) → get_or (numbers_left rest) at 0 ≡ number
      → IsPath (MustPrecede (bindings_of rest)) (number ∷ path) × AreDistinct (number ∷ path) × All (Contains (numbers_left rest)) (number ∷ path)
  whole number e =
      let size = length-map (bindings_of rest) (λ (b : Binding). b.number) ∙ length-map rest (λ (c : Candidate). c.binding.now) in
      let there = w.there in
      let here : Contains (numbers_left rest) number = subst (λ n. Contains (numbers_left rest) n) e (Contains-get_or (numbers_left rest) at 0 (omega (arith, size))) in
      (subst (λ n. IsPath (MustPrecede (bindings_of rest)) (n ∷ path)) e w.steps, subst (λ n. AreDistinct (n ∷ path)) e w.distinct, All-cons (Contains (numbers_left rest)) number path here w.within)

  -- one step further back, to a number that the walk doesn't have
  pub IsWalk-cons : (Contains (x.binding.now.number ∷ path) y.binding.now.number → ⊥) → IsWalk rest to (x.binding.now.number ∷ path)
  IsWalk-cons fresh =
      let all = whole x.binding.now.number (number_at rest at x w.there is) in
      let first = number_at rest to y l is' in
      let apart : All (λ m. y.binding.now.number ≡ m → ⊥) (x.binding.now.number ∷ path) =
      λ k d low e. fresh (k, low, get_or_default (x.binding.now.number ∷ path) k y.binding.now.number d low ∙ sym e) in
      record {
        there = l;
        steps = subst (λ n. IsPath (MustPrecede (bindings_of rest)) (n ∷ (x.binding.now.number ∷ path))) (sym first) (before, all.0);
        distinct = subst (λ n. AreDistinct (n ∷ (x.binding.now.number ∷ path))) (sym first) (AllPairs-cons (λ m n. m ≡ n → ⊥) y.binding.now.number (x.binding.now.number ∷ path) apart all.1);
        within = all.2;
      }

  -- one step further back, to a number that the walk has at this place
  pub IsRing-from_walk : (k : ℕ) → k < length (x.binding.now.number ∷ path) → get_or (x.binding.now.number ∷ path) k 0 ≡ y.binding.now.number
      → AreDistinct (take (k + 1) (x.binding.now.number ∷ path)) × IsRing (MustPrecede (bindings_of rest)) (take (k + 1) (x.binding.now.number ∷ path))
  IsRing-from_walk k low e =
      let all = whole x.binding.now.number (number_at rest at x w.there is) in
      let R : ℕ → ℕ → Type 0 = MustPrecede (bindings_of rest) in
      let back : R (get_or (x.binding.now.number ∷ path) k 0) x.binding.now.number = subst (λ n. MustPrecede (bindings_of rest) n x.binding.now.number) (sym e) before in
      let ring : IsRing R (x.binding.now.number ∷ take k path) = IsPath-leads R x.binding.now.number path k x.binding.now.number low all.0 back in
      (AllPairs-take (λ m n. m ≡ n → ⊥) (k + 1) (x.binding.now.number ∷ path) all.1, rw add-one ring)
