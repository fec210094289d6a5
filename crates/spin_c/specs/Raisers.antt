-- What the handle of an open raise owns: the raise with its room, on a hub without natives, so that there are no boxed
-- objects; or room alone; or nothing where it is closed.
use base.Fml.{Fml, ftrue, fsep, fex}
use base.Stored.{Coded}
use denote.RattleType.{RattleType}
use denote.RawPtr.{Ptr}
use Rattle.std.specs.Prelude.{Option}
use Rattle.std.specs.Coded.{coded_option}
use Rattle.std.specs.Global.{Global}
use Rattle.spin_c.specs.contracts.raising.Raising.{the_row}
use Rattle.spin_c.specs.contracts.turn.turn_maybe.dyn-1 as first
use Rattle.spin_c.specs.contracts.turn.turn_maybe.dyn-2 as second
use Rattle.spin_c.specs.contracts.turn.turn_maybe.dyn-3 as third
use Rattle.spin_c.specs.Lanes.{no_first, no_second, no_third}
use Rattle.spin_c.specs.Owned.{maybe_owns}
use Rattle.spin_c.specs.Raisings.{IsWellHeld}

abbrev pub raising_at : RattleType
raising_at = the_row (first.Any no_first).2 (second.Any no_second).2 (third.Any no_third).2
    (first.Any no_first).3 (second.Any no_second).3 (third.Any no_third).3

abbrev pub RaisingAt : Type 0
RaisingAt = raising_at.Denot

-- the pointer is null, or it owns what is held, of which a raise is open on its hub
abbrev pub raiser_owns : Global → Ptr → Option RaisingAt → Fml
raiser_owns a p kept = fsep (maybe_owns raising_at a p kept) (fex (IsWellHeld kept) (λ _. ftrue))

abbrev pub raising_coded : Coded (Option RaisingAt)
raising_coded = coded_option raising_at.coded
