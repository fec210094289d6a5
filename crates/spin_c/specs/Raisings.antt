-- What holds of what the handle of an open raise holds.
use Rattle.std.specs.Prelude.{Option, None, Some, IfSome, ⊤}
use Rattle.std.specs.Arc.{arc_value}
use Rattle.spin_table.specs.SetupOf.{data_of}
use Rattle.spin_table.specs.Setups.{SetupData}
use Rattle.spin_host.specs.Levels.{IsOpen}
use Rattle.spin_c.specs.declared.raising.Opened.{Opened}
use Rattle.spin_c.specs.declared.raising.Raising.{Raising}
use Rattle.spin_c.specs.declared.raising.Raising.TheVariants as raising

-- Below, A and B, C and D, E and F are the kinds of the boxed handlers, guards and authorisers.

-- the setup of its hub
abbrev pub setup_of : {A C E : Type 0} {B : A → Type 0} {D : C → Type 0} {F : E → Type 0}
    → Opened A C E B D F → SetupData
setup_of o = data_of (arc_value o.party).hub.setup

-- the raise is open on a version that is sound for the setup of its hub
abbrev pub IsWellOpened : {A C E : Type 0} {B : A → Type 0} {D : C → Type 0} {F : E → Type 0}
    → Opened A C E B D F → Type 0
IsWellOpened o = IsOpen (setup_of o) o.raise

-- a raise is open that is so; or if one is open it is so
abbrev pub IsOpenAnd : {A C E : Type 0} {B : A → Type 0} {D : C → Type 0} {F : E → Type 0}
    → Raising A C E B D F → (Opened A C E B D F → Type 0) → Type 0
IsOpenAnd (raising.Open o) so = so o
IsOpenAnd (raising.Idle room) so = ⊥

abbrev pub IfOpen : {A C E : Type 0} {B : A → Type 0} {D : C → Type 0} {F : E → Type 0}
    → Raising A C E B D F → (Opened A C E B D F → Type 0) → Type 0
IfOpen (raising.Open o) so = so o
IfOpen (raising.Idle room) so = ⊤

-- so it is of what a handle holds
abbrev pub IsWellHeld : {A C E : Type 0} {B : A → Type 0} {D : C → Type 0} {F : E → Type 0}
    → Option (Raising A C E B D F) → Type 0
IsWellHeld kept = IfSome kept (λ r. IfOpen r (λ o. IsWellOpened o))

-- a raise is open, or none
abbrev pub IsRaising : {A C E : Type 0} {B : A → Type 0} {D : C → Type 0} {F : E → Type 0}
    → Option (Raising A C E B D F) → Type 0
IsRaising None = ⊥
IsRaising (Some r) = IsOpenAnd r (λ o. ⊤)

abbrev pub IsRaisingAnd : {A C E : Type 0} {B : A → Type 0} {D : C → Type 0} {F : E → Type 0}
    → Option (Raising A C E B D F) → (Opened A C E B D F → Type 0) → Type 0
IsRaisingAnd None so = ⊥
IsRaisingAnd (Some r) so = IsOpenAnd r so

abbrev pub IsIdle : {A C E : Type 0} {B : A → Type 0} {D : C → Type 0} {F : E → Type 0}
    → Raising A C E B D F → Type 0
IsIdle r = IfOpen r (λ o. ⊥)

abbrev pub IsShut : {A C E : Type 0} {B : A → Type 0} {D : C → Type 0} {F : E → Type 0}
    → Option (Raising A C E B D F) → Type 0
IsShut kept = IfSome kept (λ r. IsIdle r)
