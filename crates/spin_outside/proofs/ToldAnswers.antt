-- What holds of what std gave holds of what is handed on.
use Rattle.std.proofs.Common.{◌≡◌, ℕ, ◌+◌, Result, Ok, Err, MatchResult, is_err, true, sym, subst}

pub handed_on : {T E D : Type 0} (given : Result T E) (result : Result T D) (before now : ℕ) (P : T → Type 0) (Q : Type 0)
    → MatchResult given (λ value. (result ≡ Ok value) × (now ≡ before)) (λ _. (is_err result ≡ true) × (now ≡ before + 1))
    → MatchResult given P (λ _. Q) → MatchResult result P (λ _. Q)
handed_on (Ok value) result before now P Q told holds = subst (λ r. MatchResult r P (λ _. Q)) (sym told.0) holds
handed_on (Err error) (Ok value) before now P Q told holds = absurd (cc told.0)
handed_on (Err error) (Err fault) before now P Q told holds = holds
