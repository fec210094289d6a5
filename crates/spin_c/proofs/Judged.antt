-- That a command that is judged leaves no job, and that it is one of a row.
use Rattle.std.proofs.Common.{◌≡◌, ℕ, sym, subst}
use Rattle.std.specs.Prelude.{None, Option}
use Rattle.spin_word.specs.declared.command.Command.{Command}
use Rattle.spin_word.specs.declared.row.Row.{Row}
use Rattle.spin_table.specs.Setups.{SetupData}
use Rattle.spin_table.specs.declared.refusal.Refusal.{Refusal}
use Rattle.spin_table.specs.declared.refusal.Refusal.TheVariants as refusal
use Rattle.spin_table.specs.declared.refusal.Verdicted.TheVariants as verdicted
use Rattle.spin_seat.specs.Seats.{SeatValue}
use Rattle.spin_c.specs.Jobs.{IsWellLeft}
use Rattle.spin_c.specs.Judging.{Judges}
use Rattle.spin_c.specs.Kept.{Left, left_by}
use Rattle.spin_c.specs.Turns.{Commands, IsCommanded}
use Rattle.spin_c.specs.declared.ask.Outcome.{Outcome}
use Rattle.spin_c.specs.declared.ask.Outcome.TheVariants as outcome
use Rattle.spin_c.specs.declared.lane.Lane.{Lane}

refusal_well : (d : SetupData) (why : Refusal) → IsWellLeft d (left_by (verdicted.Refused why))
refusal_well d (refusal.Conflict cycle) = tt
refusal_well d why = tt

nothing_well : (d : SetupData) (left : Option Left) → left ≡ None → IsWellLeft d left
nothing_well d left none = subst (IsWellLeft d) (sym none) tt

pub leaves_no_job : (d : SetupData) (lanes : ℕ) (seat : SeatValue) (c : Command) (after : SeatValue) (left : Option Left) (told : Outcome)
    → Judges d lanes seat c after left told → IsWellLeft d left
leaves_no_job d lanes seat c after left (outcome.Accepted place) is = nothing_well d left is.1
leaves_no_job d lanes seat c after left (outcome.Refused place why) is = subst (IsWellLeft d) (sym is.3) (refusal_well d is.0)
leaves_no_job d lanes seat c after left outcome.Full is = nothing_well d left is.1
leaves_no_job d lanes seat c after left outcome.NoMemory is = nothing_well d left is.3
leaves_no_job d lanes seat c after left outcome.Shared is = nothing_well d left is.2
leaves_no_job d lanes seat c after left other is = absurd is

pub commanded : {A C E : Type 0} {B : A → Type 0} {D : C → Type 0} {F : E → Type 0} (l : Lane A C E B D F) (row : Row) (after : Lane A C E B D F) (told : Outcome)
    → IsCommanded l row after told → Commands l row after told
commanded l row after outcome.NoCommand is = absurd is.judges
commanded l row after told is = is
