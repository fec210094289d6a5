use Rattle.std.proofs.Common.{◌≡◌, false, take}
use Rattle.std.specs.List.{list_any}
use Rattle.spin_seat.proofs.LiveCounts.{has}
use Rattle.spin_seat.proofs.live.is_live.Given as goal

-- no event so far has a binding of that number
abbrev pub invariant-loop-event : goal.invariant-loop-event
invariant-loop-event g l = list_any (has l.number) (take l.event l.version.state.events) ≡ false
