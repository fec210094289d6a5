-- The first of a list of conditions that holds, and items by their numbers.
use Rattle.std.specs.Prelude.{ℕ, ◌-◌, Bool, ◌==◌, if◌then◌else◌, List, [], ◌∷◌}
use Rattle.std.specs.Prelude.{slice_get, Option, Some, None, Result, Ok, Err}

-- the answer of the first of these conditions that holds
abbrev pub first_of : {A : Type 0} → List (Bool × A) → Option A
first_of [] = None
first_of (check ∷ others) = if check.0 then Some check.1 else first_of others

-- what there is, unless one of these faults applies: the first that does
abbrev pub unless : {A E : Type 0} → List (Bool × E) → A → Result A E
unless [] what = Ok what
unless (check ∷ others) what = if check.0 then Err check.1 else unless others what

-- the item of that number, counted from 1
abbrev pub numbered : {A : Type 0} → List A → ℕ → Option A
numbered items number = if number == 0 then None else slice_get items (number - 1)
