-- Counts, as one thing more comes up.
use Rattle.std.proofs.Common.{◌≡◌, ◌≤◌, ◌<◌, ◌+◌, ℕ, Bool, cond, List, [], ◌∷◌, ◌++◌, length, get_or, set, sym, ap, subst, ◌∙◌, arith, inl, inr, ⊎_elim, ◌==◌}
use Rattle.std.specs.Prelude.{count_by}
use Rattle.std.proofs.lemmas.Bool.{cases_lt}
use Rattle.std.proofs.lemmas.Bool.Decides.{eqb_tells}
use Rattle.std.proofs.lemmas.List.{get_or-set_other, length-set}
use Rattle.std.proofs.lemmas.List.Sums.{sum_by-append}
use Rattle.std.proofs.lemmas.Grind.{get_or-set_at}
use Rattle.spin_filter.specs.Counting.{capped, Tells}

-- one thing more is counted where it passes
pub count-more : {X : Type 0} (p : X → Bool) (xs : List X) (x : X) → count_by p (xs ++ x ∷ []) ≡ count_by p xs + cond (p x) 1 0
count-more p xs x = sum_by-append (λ y. cond (p y) 1 0) xs (x ∷ []) ∙ omega arith

-- a tally in which a number came up once more
pub add-tells : (counts numbers : List ℕ) (k r : ℕ) → k < length counts → ((n : ℕ) → get_or counts k 0 ≡ capped n → r ≡ capped (n + 1))
    → Tells numbers counts → Tells (numbers ++ k ∷ []) (set counts k r)
add-tells counts numbers k r lt next tells i within =
    let there : i < length counts = omega (arith, within, length-set counts k r) in
    let more = count-more (λ n. n == i) numbers k in
    ⊎_elim
    (λ same. get_or-set_at counts k i r 0 (sym same.1) lt
    ∙ next (count_by (λ n. n == i) numbers) (ap (λ j. get_or counts j 0) same.1 ∙ tells i there)
    ∙ ap (λ n. capped n) (sym (more ∙ ap (λ b. count_by (λ n. n == i) numbers + cond b 1 0) same.0)))
    (λ other. get_or-set_other counts k i r 0 (λ e. other.1 (sym e)) ∙ tells i there
    ∙ ap (λ n. capped n) (sym (more ∙ ap (λ b. count_by (λ n. n == i) numbers + cond b 1 0) other.0 ∙ omega arith)))
    (eqb_tells k i)

-- a number that isn't counted
pub past-tells : (counts numbers : List ℕ) (k : ℕ) → length counts ≤ k → Tells numbers counts → Tells (numbers ++ k ∷ []) counts
past-tells counts numbers k past tells i within =
    ⊎_elim
    (λ same. absurd (omega (arith, within, past, same.1)))
    (λ other. tells i within ∙ ap (λ n. capped n) (sym (count-more (λ n. n == i) numbers k ∙ ap (λ b. count_by (λ n. n == i) numbers + cond b 1 0) other.0 ∙ omega arith)))
    (eqb_tells k i)

-- ---- a list whose items change one after another

pub changed-front : {X : Type 0} (Q : X → Type 0) (now : List X) (i : ℕ) (item : X) → i < length now → Q item
    → ((k : ℕ) (d : X) → k < i → Q (get_or now k d)) → (k : ℕ) (d : X) → k < i + 1 → Q (get_or (set now i item) k d)
changed-front Q now i item lt is front k d below =
    elim (cases_lt k i) [
      | inl less ↦ subst Q (sym (get_or-set_other now i k item d (λ e. absurd (omega (arith, e, less))))) (front k d less)
      | inr more ↦ subst Q (sym (get_or-set_at now i k item d (omega (arith, more, below)) lt)) is
    ]

pub unchanged-rest : {X : Type 0} (P : X → Type 0) (now : List X) (i : ℕ) (item : X)
    → ((k : ℕ) (d : X) → i ≤ k → k < length now → P (get_or now k d)) → (k : ℕ) (d : X) → i + 1 ≤ k → k < length (set now i item) → P (get_or (set now i item) k d)
unchanged-rest P now i item rest k d above within =
    subst P (sym (get_or-set_other now i k item d (λ e. absurd (omega (arith, e, above))))) (rest k d (omega (arith, above)) (omega (arith, within, length-set now i item)))
