-- The laws of what the handle of an open raise holds, on a hub without natives. Assumes `Logic`.
use Rattle.std.specs.Prelude.{Option, None, Some, IfSome}
use denote.Param.Laws.{Laws}
use borrow.Table.Vtable.{vt_laws}
use Rattle.spin_c.specs.contracts.turn.turn_maybe.dyn-1 as first
use Rattle.spin_c.specs.contracts.turn.turn_maybe.dyn-2 as second
use Rattle.spin_c.specs.contracts.turn.turn_maybe.dyn-3 as third
use Rattle.spin_c.specs.declared.raising.Opened.{Opened}
use Rattle.spin_c.specs.declared.raising.Raising.{Raising}
use Rattle.spin_c.specs.declared.raising.Raising.TheVariants as raising
use Rattle.spin_c.specs.Raisings.{IfOpen}
use Rattle.spin_c.specs.Lanes.{no_first, no_second, no_third}
use Rattle.spin_c.specs.Raisers.{raising_at}
use Rattle.spin_c.proofs.raising.Raising.TheLaws as raising_laws

pub opener_laws : Laws raising_at
opener_laws =
    raising_laws.the_row_laws (first.Any no_first).2 (second.Any no_second).2 (third.Any no_third).2 (first.Any no_first).3 (second.Any no_second).3 (third.Any no_third).3
    (vt_laws first.slots no_first.0) (vt_laws second.slots no_second.0) (vt_laws third.slots no_third.0)

module _ {A C E : Type 0} {B : A → Type 0} {D : C → Type 0} {F : E → Type 0} (P : Opened A C E B D F → Type 0) (every : (o : Opened A C E B D F) → P o) where
  open_so : (r : Raising A C E B D F) → IfOpen r P
  open_so (raising.Open o) = every o
  open_so (raising.Idle room) = tt

  -- what is so of every open raise is so of what a handle holds
  pub each_open : (o : Option (Raising A C E B D F)) → IfSome o (λ r. IfOpen r P)
  each_open None = tt
  each_open (Some r) = open_so r
