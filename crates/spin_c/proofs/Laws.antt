-- The laws of what a handle holds, over a script without natives. Assumes `Logic`.
use Rattle.std.specs.Prelude.{Option, None, Some, IfSome}
use denote.Param.Laws.{Laws}
use borrow.Table.Vtable.{vt_laws}
use Rattle.spin_c.specs.contracts.turn.turn_maybe.dyn-1 as first
use Rattle.spin_c.specs.contracts.turn.turn_maybe.dyn-2 as second
use Rattle.spin_c.specs.contracts.turn.turn_maybe.dyn-3 as third
use Rattle.spin_c.specs.declared.lane.Held.{Held}
use Rattle.spin_c.specs.declared.lane.Held.TheVariants as held
use Rattle.spin_c.specs.declared.lane.Lane.{Lane}
use Rattle.spin_c.specs.Waiting.{IfLane}
use Rattle.spin_c.specs.Lanes.{row_at, no_first, no_second, no_third}
use Rattle.spin_c.proofs.lane.Held.TheLaws as held_laws

pub row_laws : Laws row_at
row_laws =
    held_laws.the_row_laws (first.Any no_first).2 (second.Any no_second).2 (third.Any no_third).2 (first.Any no_first).3 (second.Any no_second).3 (third.Any no_third).3
    (vt_laws first.slots no_first.0) (vt_laws second.slots no_second.0) (vt_laws third.slots no_third.0)

each_some : {X : Type 0} (P : X → Type 0) → ((x : X) → P x) → (o : Option X) → IfSome o P
each_some P every None = tt
each_some P every (Some x) = every x

module _ {A C E : Type 0} {B : A → Type 0} {D : C → Type 0} {F : E → Type 0} (P : Lane A C E B D F → Type 0) (every : (l : Lane A C E B D F) → P l) where
  lane_so : (h : Held A C E B D F) → IfLane h P
  lane_so (held.Lane l) = every l
  lane_so (held.Ended rows) = tt

  -- what is so of every lane is so of what a handle holds
  pub each_lane : (o : Option (Held A C E B D F)) → IfSome o (λ h. IfLane h P)
  each_lane = each_some (λ h. IfLane h P) lane_so
