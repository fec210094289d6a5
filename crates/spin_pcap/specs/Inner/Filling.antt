-- What single reads of a source bring.
use Rattle.std.specs.Prelude.{◌≡◌, ℕ, ◌<◌, ◌≤◌, Bool, true, false, Option, List, [], length}
use Rattle.std.specs.Prelude.{Result, Ok, Err}
use Rattle.std.specs.Io.KnownBytes.{IsAtEnd}

-- All the bytes that were wanted came, or fewer were left.
abbrev pub Copies : {E : Type 0} → Result Bool E → ℕ → List ℕ → List ℕ → Option (List ℕ) → Type 0
Copies (Ok true) wanted copied held left = length copied ≡ wanted
Copies (Ok false) wanted copied held left = (length copied < wanted) × (held ≡ []) × IsAtEnd left
Copies (Err e) wanted copied held left = length copied ≤ wanted
