use Rattle.std.proofs.Common.{◌≡◌, ◌++◌, take}
use Rattle.std.specs.List.{All}
use Rattle.spin_host.specs.Levels.{IsUpward, ups_in}
use Rattle.spin_host.proofs.upward.keep_ups.Given as goal

abbrev pub invariant-loop-item : goal.invariant-loop-item
invariant-loop-item l = record {
  kept : l.ups ≡ l.initial.ups ++ ups_in l.event l.events (take l.item-index l.given);
  rise : All (IsUpward l.event l.events) l.ups;
}
