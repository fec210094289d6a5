-- Words that are looked up in a table.
use Rattle.std.specs.Prelude.{ℕ, if◌then◌else◌, List, [], ◌∷◌, Option, Some, None}
use Rattle.std.specs.Str.{bytes_eq}

-- what the first row with this word has
abbrev pub look_up : {A : Type 0} → List ℕ → List (List ℕ × A) → Option A
look_up w [] = None
look_up w (row ∷ rows) = if bytes_eq w row.0 then Some row.1 else look_up w rows
