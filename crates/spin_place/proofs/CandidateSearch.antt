-- Looking for a candidate by its number.
use Rattle.std.proofs.Common.{◌≡◌, ℕ, ◌<◌, List, [], ◌∷◌, length, get_or, sym, ap, subst, ◌∙◌, inl, inr, arith, Result, Ok, Err, Option, MatchOption}
use Rattle.std.specs.List.{Contains, HoldsAt}
use Rattle.std.specs.List.Sorted.{IsSearchInRange, IsBinarySearchResult, IsNonDecreasingBy}
use Rattle.std.specs.Ordering.{nat_cmp, ordering_index}
use Rattle.std.specs.Result.{result_ok}
use Rattle.std.proofs.lemmas.Bool.{cases_lt, cases_order}
use Rattle.std.proofs.lemmas.Bool.Decides.{nat_tests}
use Rattle.std.proofs.lemmas.Cmp.{ranked}
use Rattle.std.proofs.lemmas.List.{get_or_default}
use Rattle.spin_place.specs.declared.candidate.Candidate.{Candidate}
use Rattle.spin_place.specs.Inner.Candidates.{numbers_left, AreRising}
use Rattle.spin_place.proofs.CandidateLists.{number_of_at, length-numbers}

-- the numbers rise along the candidates
pub numbers_rise : (cs : List Candidate) → AreRising cs → IsNonDecreasingBy (λ (c : Candidate). c.binding.now.number) cs
numbers_rise cs rising i j d le lt =
    elim (cases_order i j) [
      | inl same ↦ omega (arith, ap (λ k. (get_or cs k d).binding.now.number) same)
      | inr (inl less) ↦ omega (arith, number_of_at cs i d (omega arith), number_of_at cs j d lt, rising i j 0 less (omega (arith, lt, length-numbers cs)))
      | inr (inr more) ↦ absurd (omega arith)
    ]

some_of : (cs : List Candidate) (k : ℕ) → k < length cs → Candidate
some_of [] k l = absurd (omega arith)
some_of (c ∷ cs) k l = c

module _ (cs : List Candidate) (rising : AreRising cs) (n : ℕ) where
  comparisons_rise : IsNonDecreasingBy (λ (c : Candidate). ordering_index (nat_cmp c.binding.now.number n)) cs
  comparisons_rise i j d le lt = let low = numbers_rise cs rising i j d le lt in grind (arith, nat_tests)

  absent : (at : ℕ) → IsBinarySearchResult (λ (c : Candidate). nat_cmp c.binding.now.number n) cs (Err at) → Contains (numbers_left cs) n → ⊥
  absent at parted (k, l, e) =
      let inside : k < length cs = omega (arith, l, length-numbers cs) in
      let d = some_of cs k inside in
      let far = parted comparisons_rise in
      let is : (get_or cs k d).binding.now.number ≡ n = sym (number_of_at cs k d inside) ∙ get_or_default (numbers_left cs) k 0 n l ∙ e in
      elim (cases_lt k at) [
        | inl below ↦
            let less : (get_or cs k d).binding.now.number < n = ranked _ n _ (sym (far.0 k d (omega arith) below)) in
            omega arith
        | inr above ↦
            let more : n < (get_or cs k d).binding.now.number = ranked _ n _ (sym (far.1 k d above inside)) in
            omega arith
      ]

  -- a binary search ends at the candidate of the number, if there is one
  pub searched : (r : Result ℕ ℕ) (o : Option ℕ) → o ≡ result_ok r → IsSearchInRange r (length cs) → IsBinarySearchResult (λ (c : Candidate). nat_cmp c.binding.now.number n) cs r
      → MatchOption o (Contains (numbers_left cs) n → ⊥) (λ at. (at < length cs) × HoldsAt (λ c. c.binding.now.number ≡ n) cs at)
  searched (Ok at) o is bound equal =
      subst (λ p. MatchOption p (Contains (numbers_left cs) n → ⊥) (λ at. (at < length cs) × HoldsAt (λ (c : Candidate). c.binding.now.number ≡ n) cs at)) (sym is)
      (bound, λ d. ranked _ n _ (sym (equal d)))
  searched (Err at) o is bound parted =
      subst (λ p. MatchOption p (Contains (numbers_left cs) n → ⊥) (λ at. (at < length cs) × HoldsAt (λ (c : Candidate). c.binding.now.number ≡ n) cs at)) (sym is)
      (absent at parted)
