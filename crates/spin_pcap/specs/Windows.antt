-- What single reads of a source bring to a window.
use Rattle.std.specs.Prelude.{◌≡◌, ◌++◌, ℕ, ◌<◌, Bool, true, false, Option, List, length}
use Rattle.std.specs.Prelude.{Result, Ok, Err}
use Rattle.std.specs.Io.KnownBytes.{IsAtEnd}

-- One read brought more, or came to the end, or failed.
abbrev pub Fills : {E : Type 0} → Result Bool E → List ℕ → List ℕ → Option (List ℕ) → Type 0
Fills (Ok true) held held' left = length held < length held'
Fills (Ok false) held held' left = (held' ≡ held) × IsAtEnd left
Fills (Err e) held held' left = held' ≡ held

-- What was held stands at the front yet.
abbrev pub Grows : List ℕ → List ℕ → Type 0
Grows held held' = (more : List ℕ) × (held' ≡ held ++ more)
