-- What the command of a seat's lane comes to, in a hub of so many lanes.
use Rattle.std.specs.Prelude.{◌≡◌, ◌<◌, ◌⊎◌, ℕ, Option, None, IsTrue, true, false, length}
use Rattle.spin_word.specs.declared.command.Command.{Command}
use Rattle.spin_word.specs.declared.command.TheConstants.{MAX_PLACE}
use Rattle.spin_policy.specs.Verdicts.{is_install}
use Rattle.spin_table.specs.Setups.{SetupData}
use Rattle.spin_table.specs.declared.refusal.Refusal.{Refusal}
use Rattle.spin_table.specs.declared.refusal.Verdicted.{Verdicted}
use Rattle.spin_table.specs.declared.refusal.Verdicted.TheVariants as verdicted
use Rattle.spin_seat.specs.declared.answer.SeatFault.TheVariants as seat_fault
use Rattle.spin_seat.specs.Answers.{place_before}
use Rattle.spin_seat.specs.Calls.{GivesFrom, IsFaultAt, IsUnrefused, ReadsOn, verdict_answer}
use Rattle.spin_seat.specs.Seats.{SeatValue}
use Rattle.spin_c.specs.Crowded.{crowds}
use Rattle.spin_c.specs.Cycles.{why_told}
use Rattle.spin_c.specs.Kept.{Left, left_by}
use Rattle.spin_c.specs.declared.ask.Outcome.{Outcome}
use Rattle.spin_c.specs.declared.ask.Outcome.TheVariants as outcome

-- The command has this verdict, that of the plain dispatcher at that place; the log had room before it; and it left room
-- for a renewal.
pub record IsDecided (d : SetupData) (lanes : ℕ) (seat : SeatValue) (c : Command) (after : SeatValue) (place : ℕ)
    (verdict : Verdicted) : Type 0 where
  pub fits : crowds lanes seat.state c ≡ false
  pub gives : GivesFrom d seat.base seat.pen (verdict_answer seat.pen.lane c place verdict) after.pen
  pub room : place_before (verdict_answer seat.pen.lane c place verdict) < MAX_PLACE

-- Why there is no verdict: it would leave no room for a renewal, and nothing is done; or it wouldn't, and the log is full.
abbrev pub IsFull : ℕ → SeatValue → Command → SeatValue → Type 0
IsFull lanes seat c after =
    ((crowds lanes seat.state c ≡ true) × (after ≡ seat))
    ⊎ ((crowds lanes seat.state c ≡ false) × ReadsOn seat.pen after.pen
    × IsFaultAt seat.base.place (length after.pen.front) seat_fault.Full)

-- It is judged, and what that leaves is kept; or it isn't, and it is told why. Want of memory is no refusal of it. That the
-- library doesn't share a version, whose bindings an install wants counted, no statement excludes.
abbrev pub Judges : SetupData → ℕ → SeatValue → Command → SeatValue → Option Left → Outcome → Type 0
Judges d lanes seat c after left (outcome.Accepted place) =
    IsDecided d lanes seat c after place verdicted.Accepted × (left ≡ None)
Judges d lanes seat c after left (outcome.Refused place why) =
    (refusal : Refusal) × IsDecided d lanes seat c after place (verdicted.Refused refusal) × (why ≡ why_told refusal)
    × (left ≡ left_by (verdicted.Refused refusal))
Judges d lanes seat c after left outcome.Full = IsFull lanes seat c after × (left ≡ None)
Judges d lanes seat c after left outcome.NoMemory =
    (crowds lanes seat.state c ≡ false) × ReadsOn seat.pen after.pen × IsUnrefused d after c seat_fault.NoMemory
    × (left ≡ None)
Judges d lanes seat c after left outcome.Shared = IsTrue (is_install c.op) × (after ≡ seat) × (left ≡ None)
Judges d lanes seat c after left other = ⊥
