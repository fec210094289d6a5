-- One step of a call of a seat.
use Rattle.std.specs.Prelude.{◌≡◌, ◌+◌, ◌<◌, ◌≤◌, ℕ, Option, None, Some, length}
use Rattle.spin_word.specs.declared.command.TheConstants.{MAX_PLACE}
use Rattle.spin_word.specs.declared.row.Row.{Row}
use Rattle.spin_word.specs.declared.command.Command.{Command}
use Rattle.spin_log.specs.Pens.{PenValue}
use Rattle.spin_log.specs.declared.log.Look.{Look}
use Rattle.spin_log.specs.declared.log.Look.TheVariants.{Entry, Pinned}
use Rattle.spin_table.specs.Setups.{SetupData}
use Rattle.spin_seat.specs.declared.answer.Judged.{Judged}
use Rattle.spin_seat.specs.Seats.{SeatValue}
use Rattle.spin_seat.specs.Answers.{place_before}
use Rattle.spin_seat.specs.Calls.{ReadsOn, GivesFrom, verdict_answer}

-- the row that was found
abbrev pub row_seen : Look → Option Row
row_seen (Entry row) = Some row
row_seen Pinned = None

-- what `command` says of a verdict
pub record Judges (d : SetupData) (old : SeatValue) (c : Command) (judged : Judged)
    (new : SeatValue) : Type 0 where
  pub gives : GivesFrom d old.base old.pen
      (verdict_answer old.pen.lane c judged.place judged.verdict) new.pen
  pub room : place_before (verdict_answer old.pen.lane c judged.place judged.verdict) < MAX_PLACE
  pub whole : new.pending ≡ None

-- one try of a command, by a seat that keeps no row: there is a verdict, or the seat has read one
-- row
abbrev pub Tries : SetupData → SeatValue → Command → Option Judged → SeatValue → Type 0
Tries d old c (Some judged) new = Judges d old c judged new
Tries d old c None new = ReadsOn old.pen new.pen × (length new.pen.front ≡ length old.pen.front + 1)

-- the count of turns rose by at most one more than the rows that the pen read
abbrev pub TurnsFor : PenValue → ℕ → PenValue → ℕ → Type 0
TurnsFor old turns new turns' = turns' + length old.front ≤ turns + length new.front + 1
