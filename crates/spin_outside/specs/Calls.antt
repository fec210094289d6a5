-- Calls that are counted, and of which those of listed numbers fail.
use Rattle.std.specs.Prelude.{◌≡◌, ℕ, List, Bool, true, false, ◌==◌, ◌++◌, ◌∷◌, [], Result, Ok}
use Rattle.std.specs.Prelude.{Err}
use Rattle.std.specs.List.{list_any}
use Rattle.spin_outside.specs.Counts.{raised_by}
use Rattle.spin_outside.specs.declared.faults.FindFault.{FindFault}
use Rattle.spin_outside.specs.declared.faults.FindFault.TheVariants as find

-- the numbers of the calls that fail, from 0, and how many calls were made
pub record CallsState : Type 0 where
  pub listed : List ℕ
  pub made : ℕ

-- no call was made, and none is to fail
abbrev pub no_call : CallsState
no_call = record { listed = []; made = 0 }

-- the call of that number is to fail too
abbrev pub with_failing : CallsState → ℕ → CallsState
with_failing calls number = record calls { listed = calls.listed ++ number ∷ [] }

-- whether the next call fails
abbrev pub next_fails : CallsState → Bool
next_fails calls = list_any (λ number. number == calls.made) calls.listed

-- one more call was made
abbrev pub counted : CallsState → CallsState
counted calls = record calls { made = raised_by calls.made 1 }

-- `find` is `Failed` exactly where its number is listed.
abbrev pub FindsByList : {T : Type 0} → Bool → Result T FindFault → Type 0
FindsByList listed (Ok file) = listed ≡ false
FindsByList listed (Err find.Failed) = listed ≡ true
FindsByList listed (Err find.Absent) = listed ≡ false
FindsByList listed (Err find.NoMemory) = listed ≡ false
