-- How a text is told that a number may stand for.
use Rattle.std.specs.Prelude.{◌≡◌, ℕ, List, Option, None, Some, length}
use Rattle.spin_c.specs.Tellings.{AreCopied}

-- it is copied, and it is told how many bytes it has; or there is none, and the buffer is as it was
abbrev pub TellsText : Option (List ℕ) → List ℕ → ℕ → List ℕ → ℕ → Type 0
TellsText (Some text) before number after wanted = AreCopied text before number after × (wanted ≡ length text)
TellsText None before number after wanted = (number ≡ 21) × (after ≡ before) × (wanted ≡ 0)
