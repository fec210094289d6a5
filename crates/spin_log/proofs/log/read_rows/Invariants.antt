use Rattle.std.proofs.Common.{◌≡◌, ℕ, ◌+◌, ◌≤◌, List, length, vec_capacity}
use Rattle.core.specs.Mem.Slots.{slots_items}
use Rattle.spin_word.specs.declared.row.Row.{Row}
use Rattle.spin_word.specs.declared.command.TheConstants.{MAX_PLACE}
use Rattle.spin_log.specs.Rows.{IsPrefix}
use Rattle.spin_log.specs.Rule.{Stands}
use Rattle.spin_log.proofs.log.read_rows.Given as goal

abbrev pub invariant-loop-at : goal.invariant-loop-at
invariant-loop-at l = (length l.rows.items + 1 ≡ l.at) × (MAX_PLACE ≤ vec_capacity l.rows)
    × ((lanes : ℕ) (entries : List Row) → Stands lanes entries (slots_items l.closed.words) → IsPrefix l.rows.items entries)
