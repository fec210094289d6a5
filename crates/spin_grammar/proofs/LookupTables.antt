-- A word that is looked up in the rows of a table is chosen from what those rows say.
use Rattle.std.proofs.Common.{◌≡◌, ℕ, Bool, true, false, List, [], ◌∷◌, map, bytes_eq, Bor, refl}
use Rattle.std.proofs.lemmas.Slice.Eq.{bytes_eq-Decides}
use Rattle.spin_grammar.specs.Grammar.{Fixed, Choices, chosen}
use Rattle.spin_grammar.specs.Inner.Keywords.{Next, step_of, known}
use Rattle.spin_grammar.specs.Lookup.{look_up}

abbrev pub Row : Type 0 → Type 0
Row A = Bor (List ℕ) × A

-- each row's word is the one that stands for what the row means
abbrev pub IsSpelled : {A : Type 0} → (A → Next) → List (Row A) → Type 0
IsSpelled next [] = Unit {0}
IsSpelled next (row ∷ rows) = ((next row.1).0 ≡ Fixed row.0.now) × IsSpelled next rows

abbrev pub choices_of : {A : Type 0} → (A → Next) → List (Row A) → Choices
choices_of next rows = map (λ row. (row.0.now, (next row.1).1)) rows

-- one row, before others of which it is known
row_chosen : {A : Type 0} (next : A → Next) (row : Row A) (rows : List (Row A)) (w : List ℕ) → (next row.1).0 ≡ Fixed row.0.now
    → step_of next (known (look_up w (map (λ row. (row.0.now, row.1)) rows))) ≡ chosen w (choices_of next rows) → (b : Bool) → bytes_eq w row.0.now ≡ b
    → step_of next (known (look_up w (map (λ row. (row.0.now, row.1)) (row ∷ rows)))) ≡ chosen w (choices_of next (row ∷ rows))
row_chosen next row rows w fixed rest true e =
    let same : w ≡ row.0.now = (bytes_eq-Decides w row.0.now).0 e in
    rw (e, same, ← fixed) refl
row_chosen next row rows w fixed rest false e = rw e rest

pub look_up_chosen : {A : Type 0} (next : A → Next) (rows : List (Row A)) (w : List ℕ) → IsSpelled next rows
    → step_of next (known (look_up w (map (λ row. (row.0.now, row.1)) rows))) ≡ chosen w (choices_of next rows)
look_up_chosen next [] w h = refl
look_up_chosen next (row ∷ rows) w h = row_chosen next row rows w h.0 (look_up_chosen next rows w h.1) (bytes_eq w row.0.now) refl
