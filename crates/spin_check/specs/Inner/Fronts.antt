-- Fronts of a report.
use Rattle.std.specs.Prelude.{◌≡◌, ◌≢◌, ℕ, List, ◌++◌, Option, None, Some}
use denote.Ref.{Bor}

-- What stands behind the text in the report; none where the report doesn't begin with it.
abbrev pub IsBehind : List ℕ → List ℕ → Option (Bor (List ℕ)) → Type 0
IsBehind text report None = (rest : List ℕ) → report ≢ text ++ rest
IsBehind text report (Some rest) = report ≡ text ++ rest.now
