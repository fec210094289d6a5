use Rattle.std.proofs.Common.{◌≡◌, ℕ, List, false, ◌∷◌, ◌++◌, length, drop}
use Rattle.std.specs.Prelude.{All}
use Rattle.spin_text.specs.Words.{Word, spaced}
use Rattle.spin_check.specs.Inner.Told.{is_plain, IsWord}
use Rattle.spin_check.proofs.told.behind_words.Given as goal

abbrev pub invariant-loop-passed : goal.invariant-loop-passed
invariant-loop-passed l =
    (word : Word) (words : List Word) (byte : ℕ) (more : List ℕ) → IsWord word → All IsWord words
    → length words ≡ l.count → is_plain byte ≡ false → l.report ≡ word ++ spaced words ++ byte ∷ more
    → l.rest ≡ spaced (drop l._passed words) ++ byte ∷ more
