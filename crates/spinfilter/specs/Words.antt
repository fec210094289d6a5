-- The words of the command line, and what they ask for.
use Rattle.std.specs.Prelude.{◌≡◌, ◌≢◌, ◌<◌, ℕ, Bool, true, false, List, [], ◌∷◌, ◌++◌, All, length, codes, if◌then◌else◌, Option, Some, None, IfSome}
use Rattle.spinfilter.specs.declared.words.Asked.{Asked}

-- A name isn't empty, and doesn't begin with `-`.
abbrev pub IsName : List ℕ → Type 0
IsName [] = ⊥
IsName (byte ∷ bytes) = byte ≢ 45

-- the words that name the capture that is written, if one is, and ask for counts, if they are asked for
abbrev pub option_words : Option (List ℕ) → Bool → List (List ℕ)
option_words None counts = if counts then codes "--counts" ∷ [] else []
option_words (Some name) counts = codes "-w" ∷ name ∷ (if counts then codes "--counts" ∷ [] else [])

-- These words name that capture, and ask for counts or don't.
abbrev pub IsOption : List (List ℕ) → Option (List ℕ) → Bool → Type 0
IsOption words file counts = (words ≡ option_words file counts) × IfSome file IsName

-- The words ask for this: the names of the script and of one capture or more, and then the options.
pub record IsAsked (words : List (List ℕ)) (asked : Asked) : Type 0 where
  pub spelled : words ≡ (asked.script ∷ asked.captures.items) ++ option_words asked.file asked.counts
  pub names : All IsName (asked.script ∷ asked.captures.items)
  pub some : 0 < length asked.captures.items
  pub file : IfSome asked.file IsName

-- What the words ask for; none where they have another form.
abbrev pub ReadsAs : List (List ℕ) → Option Asked → Type 0
ReadsAs words None = (asked : Asked) → IsAsked words asked → ⊥
ReadsAs words (Some asked) = IsAsked words asked
