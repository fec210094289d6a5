-- Which words are a command.
use Rattle.std.specs.Prelude.{◌≡◌, ◌≢◌, ◌<◌, ℕ, List, [], ◌∷◌, length, codes, slice_index, IsUtf8, Some, None}
use Rattle.std.specs.List.{All}
use Rattle.spin_grammar.specs.Spelling as grammar
use Rattle.spin_grammar.specs.Spelling.{within, greatest}
use Rattle.spin_args.specs.declared.words.Asked.{Asked}
use Rattle.spin_args.specs.declared.words.Asked.TheVariants.{Run, Gen, Check, Join, Vm}

-- a word that can't be taken for an option: not empty, not begun by `-`, and UTF-8
pub record IsPlain (word : List ℕ) : Type 0 where
  pub some : 0 < length word
  pub plain : slice_index word 0 ≢ 45
  pub utf8 : IsUtf8 word

-- The words have the form of what is asked for. A number is written as in scripts, in decimal or hexadecimal digits,
-- and is below 2^64.
abbrev pub IsSpelled : List (List ℕ) → Asked → Type 0
IsSpelled words (Run script None) = words ≡ codes "run" ∷ script ∷ []
IsSpelled words (Run script (Some packets)) = words ≡ codes "run" ∷ script ∷ packets ∷ []
IsSpelled words (Gen number) =
    (word : List ℕ) × (words ≡ codes "gen" ∷ word ∷ [])
    × (within 0 greatest (grammar.number word) ≡ Some number)
IsSpelled words (Check script report None) = words ≡ codes "check" ∷ script ∷ report ∷ []
IsSpelled words (Check script report (Some packets)) =
    words ≡ codes "check" ∷ script ∷ report ∷ packets ∷ []
IsSpelled words (Join script packets) = words ≡ codes "join" ∷ script ∷ packets ∷ []
IsSpelled words (Vm script trace) = words ≡ codes "vm" ∷ script ∷ trace ∷ []

-- The words have this form, and each is plain.
pub record IsAsked (words : List (List ℕ)) (asked : Asked) : Type 0 where
  pub words_are : IsSpelled words asked
  pub plain : All IsPlain words
