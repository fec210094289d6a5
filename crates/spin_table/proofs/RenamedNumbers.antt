-- What of numbers stays where they keep their order.
use Rattle.std.proofs.Common.{◌≡◌, ℕ, zero, suc, ◌<◌, ◌≤◌, not, ◌||◌, ◌&&◌, cond, eqb, List, [], ◌∷◌, map, refl, sym, ap, ◌∙◌, inl, inr, arith}
use Rattle.std.specs.List.{list_any}
use Rattle.std.proofs.lemmas.Bool.{cases_eq, cases_order, eq-eqb, ne_eqb}
use Rattle.spin_word.specs.Commands.{no_number}
use Rattle.spin_place.specs.Precedence.{names}
use Rattle.spin_table.specs.Renamings.{Rises, renamed_or_none, NameAlike}

module _ (to : ℕ → ℕ) (rises : Rises to) where
  pub at_least : (n : ℕ) → n ≤ to n
  at_least zero = omega arith
  at_least (suc n) = let low = at_least n in let more = rises n (suc n) (omega arith) in omega arith

  pub one_to_one : (m n : ℕ) → to m ≡ to n → m ≡ n
  one_to_one m n e =
      elim (cases_order m n) [
        | inl same ↦ same
        | inr (inl less) ↦ let up = rises m n less in absurd (omega arith)
        | inr (inr more) ↦ let up = rises n m more in absurd (omega arith)
      ]

  pub less_back : (m n : ℕ) → to m < to n → m < n
  less_back m n l =
      elim (cases_order m n) [
        | inl same ↦ let is = ap to same in absurd (omega arith)
        | inr (inl less) ↦ less
        | inr (inr more) ↦ let up = rises n m more in absurd (omega arith)
      ]

  pub same_test : (m n : ℕ) → eqb (to m) (to n) ≡ eqb m n
  same_test m n =
      elim (cases_eq m n) [
        | inl same ↦ eq-eqb (to m) (to n) (ap to same) ∙ sym (eq-eqb m n same)
        | inr apart ↦ ne_eqb (to m) (to n) (λ e. apart (one_to_one m n e)) ∙ sym (ne_eqb m n apart)
      ]

  -- a number that isn't none comes to its other number
  pub renamed_some : (n : ℕ) → (n ≡ no_number → ⊥) → renamed_or_none to n ≡ to n
  renamed_some n some = ap (λ b. cond b no_number (to n)) (ne_eqb n no_number some)

  pub renamed_none : (n : ℕ) → n ≡ no_number → renamed_or_none to n ≡ no_number
  renamed_none n none = ap (λ b. cond b no_number (to n)) (eq-eqb n no_number none)

  names_one : (n k : ℕ) → to k < no_number → eqb (renamed_or_none to n) (to k) ≡ eqb n k
  names_one n k named =
      let low = at_least k in
      elim (cases_eq n no_number) [
        | inl none ↦
            ap (λ x. eqb x (to k)) (renamed_none n none) ∙ ne_eqb no_number (to k) (λ e. absurd (omega arith))
            ∙ sym (ne_eqb n k (λ e. absurd (omega arith)))
        | inr some ↦ ap (λ x. eqb x (to k)) (renamed_some n some) ∙ same_test n k
      ]

  names_any : (ns : List ℕ) (k : ℕ) → to k < no_number → list_any (λ m. eqb m (to k)) (map (renamed_or_none to) ns) ≡ list_any (λ m. eqb m k) ns
  names_any [] k named = refl
  names_any (n ∷ ns) k named =
      ap (λ b. b || list_any (λ m. eqb m (to k)) (map (renamed_or_none to) ns)) (names_one n k named) ∙ ap (λ b. eqb n k || b) (names_any ns k named)

  -- what numbers name is named by their other numbers
  pub named_alike : (ns ms : List ℕ) (k : ℕ) → to k < no_number → list_any (λ m. eqb m (to k)) ms ≡ list_any (λ m. eqb m k) ns → names ms (to k) ≡ names ns k
  named_alike ns ms k named same =
      let low = at_least k in
      ap (λ b. not b && list_any (λ m. eqb m (to k)) ms) (ne_eqb (to k) no_number (λ e. absurd (omega arith)))
      ∙ same ∙ sym (ap (λ b. not b && list_any (λ m. eqb m k) ns) (ne_eqb k no_number (λ e. absurd (omega arith))))

  pub names_renamed : (ns : List ℕ) → NameAlike to ns (map (renamed_or_none to) ns)
  names_renamed ns k some named = named_alike ns (map (renamed_or_none to) ns) k named (names_any ns k named)
