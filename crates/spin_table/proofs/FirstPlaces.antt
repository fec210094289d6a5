-- The first place at which a test passes.
use Rattle.std.proofs.Common.{◌≡◌, ℕ, ◌+◌, ◌<◌, Bool, true, false, cond, List, [], ◌∷◌, length, get_or, refl, ap, ◌∙◌, arith}
use Rattle.std.specs.Prelude.{None, Some, nat_lt, position}
use Rattle.std.specs.List.{AllWithin, position_or_len, enumerate_from}
use Rattle.std.proofs.lemmas.List.FromFn.{get_or-enumerate_from}
use Rattle.std.proofs.lemmas.List.Sums.{position_or_len_is}

pub position-none : {X : Type 0} (p : X → Bool) (xs : List X) → AllWithin (λ x. p x ≡ false) xs 0 (length xs) → position p xs ≡ None
position-none p [] all = refl
position-none p (x ∷ xs) all =
    let at : position_or_len p (x ∷ xs) ≡ length (x ∷ xs) = position_or_len_is p (x ∷ xs) (length (x ∷ xs)) x (omega arith) (λ k l. all k x (omega arith) l) (λ l. absurd (omega arith)) in
    let past : nat_lt (position_or_len p (x ∷ xs)) (length (x ∷ xs)) ≡ false = grind arith in
    ap (λ b. cond b (Some (position_or_len p (x ∷ xs))) None) past

pub position-at : {X : Type 0} (p : X → Bool) (xs : List X) (at : ℕ) (x : X) → at < length xs → get_or xs at x ≡ x → p x ≡ true
    → AllWithin (λ x. p x ≡ false) xs 0 at → position p xs ≡ Some at
position-at p xs at x inside read passes before =
    let first : position_or_len p xs ≡ at = position_or_len_is p xs at x (omega arith) (λ k l. before k x (omega arith) l) (λ l. ap p read ∙ passes) in
    let within : nat_lt (position_or_len p xs) (length xs) ≡ true = grind arith in
    ap (λ b. cond b (Some (position_or_len p xs)) None) within ∙ ap Some first

-- what stands at a place stands there with its number
pub enumerated : {X : Type 0} (xs : List X) (at : ℕ) (x : X) → at < length xs → get_or xs at x ≡ x → get_or (enumerate_from 0 xs) at (at, x) ≡ (at, x)
enumerated xs at x inside read =
    let same : 0 + at ≡ at = omega arith in
    get_or-enumerate_from 0 xs at (at, x) inside ∙ ap (λ n. (n, get_or xs at x)) same ∙ ap (λ y. (at, y)) read
