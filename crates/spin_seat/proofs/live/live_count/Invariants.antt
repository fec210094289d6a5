use Rattle.std.proofs.Common.{◌≡◌, ◌≤◌, length}
use Rattle.std.specs.Prelude.{filter}
use Rattle.std.specs.List.{range_with_len}
use Rattle.spin_table.specs.Renewals.{is_live_in}
use Rattle.spin_seat.proofs.live.live_count.Given as goal

-- of the numbers so far those of live bindings are counted
abbrev pub invariant-loop-before : goal.invariant-loop-before
invariant-loop-before g l = (l.count ≡ length (filter (is_live_in l.version.state) (range_with_len 1 l.before))) × (l.count ≤ l.before)
