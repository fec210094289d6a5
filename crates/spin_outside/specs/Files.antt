-- What a shelf that tells its files holds, has left and has handed out.
use Rattle.std.specs.Prelude.{◌≡◌, ◌≢◌, ℕ, Option, Some, None, List, [], ◌∷◌, if◌then◌else◌}
use Rattle.std.specs.Prelude.{bytes_eq, ⊤, MatchResult, Result}
use Rattle.spin_outside.specs.Counts.{raised_by}

-- a file, by its name
pub record File : Type 0 where
  pub name : List ℕ
  pub bytes : List ℕ

-- the content of the file of that name
abbrev pub content : List File → List ℕ → Option (List ℕ)
content [] name = None
content (file ∷ files) name = if bytes_eq file.name name then Some file.bytes else content files name

-- What is left is the whole file of that name.
abbrev pub IsWholeFile : Option (List File) → List ℕ → Option (List ℕ) → Type 0
IsWholeFile None name left = ⊤
IsWholeFile (Some files) name left = (bytes : List ℕ) × (content files name ≡ Some bytes) × (left ≡ Some bytes)

-- No file has that name.
abbrev pub IsLacking : Option (List File) → List ℕ → Type 0
IsLacking None name = ⊤
IsLacking (Some files) name = content files name ≡ None

-- Of everything but that one the same is told as before: of another file number, or another name.
abbrev pub OthersKeep : {K T : Type 0} → (K → T) → (K → T) → K → Type 0
OthersKeep {K} before now one = (other : K) → other ≢ one → now other ≡ before other

-- Of everything the same is told as before.
abbrev pub AllKeep : {K T : Type 0} → (K → T) → (K → T) → Type 0
AllKeep {K} before now = (other : K) → now other ≡ before other

-- Of the bytes read by name, those of this name are so many more; of no name, none are.
abbrev pub ReadsMore : (List ℕ → ℕ) → (List ℕ → ℕ) → Option (List ℕ) → ℕ → Type 0
ReadsMore before now None count = AllKeep before now
ReadsMore before now (Some name) count = (now name ≡ raised_by (before name) count) × OthersKeep before now name

-- A read adds what it took to the bytes read under that name, and a failed one nothing.
abbrev pub ReadsUnder : {E : Type 0} → (List ℕ → ℕ) → (List ℕ → ℕ) → Option (List ℕ) → Result ℕ E → Type 0
ReadsUnder before now name result = MatchResult result (ReadsMore before now name) (λ _. AllKeep before now)

-- These bytes were all that was left, and nothing is left.
abbrev pub TakesAll : Option (List ℕ) → Option (List ℕ) → List ℕ → Type 0
TakesAll None now bytes = ⊤
TakesAll (Some xs) now bytes = (bytes ≡ xs) × (now ≡ Some [])
