use Rattle.std.proofs.Common.{◌≡◌, ◌<◌, ◌^◌, ℕ, List, ◌∷◌, ◌++◌, map, length}
use Rattle.std.specs.Prelude.{All, decimal}
use Rattle.spin_text.specs.Words.{spaced}
use Rattle.spin_check.proofs.told.numbers_told.Given as goal

-- the numbers so far begin those that stand there, and the others follow
abbrev pub invariant-loop-first : goal.invariant-loop-first
invariant-loop-first l =
    (ns more : List ℕ) → All (λ n. n < 2 ^ 16) ns → l.report ≡ spaced (map decimal ns) ++ 10 ∷ more
    → (left : List ℕ) × (ns ≡ l.numbers ++ left) × (l.rest ≡ spaced (map decimal left) ++ 10 ∷ more)

abbrev pub decreases-loop-first : goal.decreases-loop-first
decreases-loop-first l = length l.rest
