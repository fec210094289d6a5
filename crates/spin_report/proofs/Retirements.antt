-- Retirements, each by its turn.
use Rattle.std.proofs.Common.{◌≡◌, ◌+◌, ℕ, Bool, suc, List, [], ◌∷◌, map, refl, sym, ap, ◌∙◌, arith}
use Rattle.std.specs.List.{enumerate_from}
use Rattle.spin_endpoint.specs.Named.{NamedEnd}
use Rattle.spin_endpoint.specs.Sends.{all_retired, stands_in_turn}
use Rattle.spin_report.specs.Histories.{Retirement}
use Rattle.spin_report.specs.Runs.{retirements}

-- the same, each number with its turn
abbrev pub turns : List (List ℕ) → List ℕ → List NamedEnd → List Retirement
turns names numbers ends =
    map (λ (turn : ℕ × ℕ). record { endpoint = turn.1; stood = stands_in_turn names numbers ends turn.0 }) (enumerate_from 0 numbers)

from_turn : (names : List (List ℕ)) (n : ℕ) (numbers : List ℕ) (ends : List NamedEnd) (f : ℕ → Bool)
    → ((k : ℕ) → f (n + k) ≡ stands_in_turn names numbers ends k)
    → retirements names numbers ends ≡ map (λ (turn : ℕ × ℕ). record { endpoint = turn.1; stood = f turn.0 }) (enumerate_from n numbers)
from_turn names n [] ends f h = refl
from_turn names n (number ∷ numbers) ends f h =
    let first = sym (h 0) ∙ ap f (let e : n + 0 ≡ n = omega arith in e) in
    let others = from_turn names (n + 1) numbers (all_retired names (number ∷ []) ends) f (λ k. ap f (let e : n + 1 + k ≡ n + suc k = omega arith in e) ∙ h (suc k)) in
    λ i. record { endpoint = number; stood = first i } ∷ others i

pub retirements_are : (names : List (List ℕ)) (numbers : List ℕ) (ends : List NamedEnd) → retirements names numbers ends ≡ turns names numbers ends
retirements_are names numbers ends =
    from_turn names 0 numbers ends (stands_in_turn names numbers ends) (λ k. ap (stands_in_turn names numbers ends) (let e : 0 + k ≡ k = omega arith in e))
