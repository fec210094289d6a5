-- What a handle owns: a lane over a script without natives, whose boxed objects are of no type, so that there are none;
-- or the rows of a hub that was ended; or nothing where it is closed.
use base.Fml.{Fml, ftrue, fsep, fex}
use base.Stored.{Coded}
use denote.RattleType.{RattleType}
use denote.RawPtr.{Ptr}
use denote.Param.Table.{none}
use Rattle.std.specs.Prelude.{Option}
use Rattle.std.specs.Coded.{coded_option}
use Rattle.std.specs.Global.{Global}
use Rattle.spin_c.specs.contracts.lane.Held.{the_row}
use Rattle.spin_c.specs.contracts.turn.turn_maybe.dyn-1 as first
use Rattle.spin_c.specs.contracts.turn.turn_maybe.dyn-2 as second
use Rattle.spin_c.specs.contracts.turn.turn_maybe.dyn-3 as third
use Rattle.spin_c.specs.Owned.{maybe_owns}
use Rattle.spin_c.specs.Waiting.{IsWell}

-- the types of objects that there are: none
abbrev pub no_first : first.Ghosts
no_first = (none, (λ i. absurd i), (λ i. absurd i), (λ i. absurd i))

abbrev pub no_second : second.Ghosts
no_second = (none, (λ i. absurd i), (λ i. absurd i), (λ i. absurd i))

abbrev pub no_third : third.Ghosts
no_third = (none, (λ i. absurd i), (λ i. absurd i), (λ i. absurd i))

abbrev pub row_at : RattleType
row_at = the_row (first.Any no_first).2 (second.Any no_second).2 (third.Any no_third).2
    (first.Any no_first).3 (second.Any no_second).3 (third.Any no_third).3

abbrev pub HeldAt : Type 0
HeldAt = row_at.Denot

-- the pointer is null, or it owns what is held: a lane's seat, and those that wait at it, are seats of its hub
abbrev pub handle_owns : Global → Ptr → Option HeldAt → Fml
handle_owns a p kept = fsep (maybe_owns row_at a p kept) (fex (IsWell kept) (λ _. ftrue))

abbrev pub kept_coded : Coded (Option HeldAt)
kept_coded = coded_option row_at.coded
