-- A pen counts as one of its lane.
use Rattle.std.proofs.Common.{◌≡◌, ◌≢◌, ℕ, cond, eqb, refl}
use Rattle.std.proofs.Common.{eq-eqb, ne_eqb}

pub counted : (m n : ℕ) → m ≡ n → cond {A = ℕ} (eqb m n) 1 0 ≡ 1
counted m n e = rw (eq-eqb m n e) refl

pub not_counted : (m n : ℕ) → m ≢ n → cond {A = ℕ} (eqb m n) 1 0 ≡ 0
not_counted m n e = rw (ne_eqb m n e) refl
