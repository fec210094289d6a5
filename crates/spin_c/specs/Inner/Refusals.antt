-- Why there are no values of what is handed in, and what is told before want of memory.
use Rattle.std.specs.Prelude.{◌≡◌, Option, None, Some}
use Rattle.spin_c.specs.declared.ask.Outcome.{Outcome}
use Rattle.spin_c.specs.declared.ask.Outcome.TheVariants as outcome
use Rattle.spin_c.specs.declared.lane.Held.{Held}
use Rattle.spin_c.specs.declared.moves.Move.TheVariants as move
use Rattle.spin_c.specs.declared.moves.Upshot.{Upshot}
use Rattle.spin_c.specs.declared.moves.Upshot.TheVariants as upshot
use Rattle.spin_c.specs.declared.raising.Raising.{Raising}
use Rattle.spin_c.specs.Beginnings.{missed_on}
use Rattle.spin_c.specs.Moves.{Moves}

-- Below, A and B, C and D, E and F are the kinds of the boxed handlers, guards and authorisers.

-- it isn't as it should; or it is, there is some, and there was no memory for it
abbrev pub IsUnfit : Type 0 → Type 0 → Upshot → Type 0
IsUnfit fits some upshot.NoArgument = fits → ⊥
IsUnfit fits some upshot.NoMemory = fits × some
IsUnfit fits some other = ⊥

-- an open raise tells first that no firing is due
abbrev pub IsToldFor : {A C E : Type 0} {B : A → Type 0} {D : C → Type 0} {F : E → Type 0}
    → Option (Raising A C E B D F) → Upshot → Option (Raising A C E B D F) → Upshot → Type 0
IsToldFor kept upshot.NoMemory after told = Moves kept (move.Miss tt) after told
IsToldFor kept why after told = (after ≡ kept) × (told ≡ why)

-- a lane's handle tells first that it is closed, or that its hub was ended
abbrev pub missed_by : {A C E : Type 0} {B : A → Type 0} {D : C → Type 0} {F : E → Type 0}
    → Option (Held A C E B D F) → Upshot
missed_by None = upshot.Closed
missed_by (Some h) = missed_on h

abbrev pub told_first : {A C E : Type 0} {B : A → Type 0} {D : C → Type 0} {F : E → Type 0}
    → Option (Held A C E B D F) → Upshot → Upshot
told_first kept upshot.NoMemory = missed_by kept
told_first kept other = other

-- what it tells of an old number says which
abbrev pub missed_of : Outcome → Upshot
missed_of outcome.Closed = upshot.Closed
missed_of outcome.Ended = upshot.Ended
missed_of other = upshot.NoMemory
