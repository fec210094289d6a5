use Rattle.std.proofs.Common.{◌≡◌, ◌≤◌, ◌*◌, take}
use Rattle.std.specs.List.{sum_by}
use Rattle.spin_c.proofs.LiveNumbers.{bindings_of}
use Rattle.spin_c.proofs.crowded.live_count.Given as goal

-- the bindings of the events so far are counted
abbrev pub invariant-loop-event : goal.invariant-loop-event
invariant-loop-event g l = (l.count ≡ sum_by bindings_of (take l.event l.version.state.events)) × (l.count ≤ l.event * 64)
