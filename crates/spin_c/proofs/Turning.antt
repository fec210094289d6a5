-- What is asked of a lane, and isn't to renew its hub or to end it; what is asked of an open handle, and isn't to close it;
-- and that a lane stays well as its seat does.
use Rattle.std.proofs.Common.{◌≡◌, ◌∙◌, ◌+◌, ◌*◌, ◌/◌, ◌%◌, ◌^◌, ◌<◌, ℕ, List, arith, refl, sym}
use Rattle.std.specs.Prelude.{Some, None}
use Rattle.std.specs.Arc.{arc_value}
use Rattle.spin_word.specs.declared.row.Row.{Row}
use Rattle.spin_word.specs.Rows.{lane_of}
use Rattle.spin_log.specs.Pens.{IsSamePen}
use Rattle.spin_table.specs.SetupOf.{data_of}
use Rattle.spin_seat.specs.Seats.{SeatValue, IsSeat}
use Rattle.spin_c.specs.Waiting.{IsLaneAnd, IsWellAt, IsWellLane}
use Rattle.spin_c.specs.declared.lane.Held.{Held}
use Rattle.spin_c.specs.declared.lane.Held.TheVariants as held
use Rattle.spin_c.specs.declared.lane.Lane.{Lane}
use Rattle.spin_c.specs.declared.ask.Ask.{Ask}
use Rattle.spin_c.specs.declared.ask.Ask.TheVariants as ask
use Rattle.spin_c.specs.declared.ask.Outcome.{Outcome}
use Rattle.spin_c.specs.declared.ask.Outcome.TheVariants as outcome
use Rattle.spin_c.specs.Verdicts.{no_natives}
use Rattle.spin_c.specs.Turns.{Does, DoesClosed, DoesHeld, DoesOpen, in_lane}
use Rattle.spin_c.proofs.Sharing.{whole_as}

-- a closed handle stays closed at all calls but an open
pub closed_else : (A C E : Type 0) (B : A → Type 0) (D : C → Type 0) (F : E → Type 0) (asked : Ask) → ((text : List ℕ) (lanes : ℕ) → asked ≡ ask.Open text lanes → ⊥) → DoesClosed {A = A} {C = C} {E = E} {B = B} {D = D} {F = F} no_natives asked None outcome.Closed
closed_else A C E B D F (ask.Open text lanes) other = absurd (other text lanes refl)
closed_else A C E B D F (ask.Raise event args) other = (refl, refl)
closed_else A C E B D F (ask.Command row) other = (refl, refl)
closed_else A C E B D F (ask.Step index) other = (refl, refl)
closed_else A C E B D F (ask.Bytes index) other = (refl, refl)
closed_else A C E B D F (ask.Later event args) other = (refl, refl)
closed_else A C E B D F (ask.Job index) other = (refl, refl)
closed_else A C E B D F (ask.JobStep index) other = (refl, refl)
closed_else A C E B D F (ask.JobBytes index) other = (refl, refl)
closed_else A C E B D F (ask.Cycle index) other = (refl, refl)
closed_else A C E B D F (ask.Before index) other = (refl, refl)
closed_else A C E B D F ask.Gather other = (refl, refl)
closed_else A C E B D F (ask.RowAt index) other = (refl, refl)
closed_else A C E B D F ask.Renew other = (refl, refl)
closed_else A C E B D F ask.End other = (refl, refl)
closed_else A C E B D F ask.Return other = (refl, refl)
closed_else A C E B D F ask.Close other = (refl, refl)

module _ {A C E : Type 0} {B : A → Type 0} {D : C → Type 0} {F : E → Type 0} where
  pub stays_placed : (l : Lane A C E B D F) (after : Held A C E B D F) (asked : Ask) (told : Outcome) → (asked ≡ ask.Renew → ⊥) → (asked ≡ ask.End → ⊥)
      → IsLaneAnd after (λ new. Does l asked new told) → DoesHeld (held.Lane l) asked after told
  stays_placed l after (ask.Open text lanes) told stays goes does = does
  stays_placed l after (ask.Raise event args) told stays goes does = does
  stays_placed l after (ask.Command row) told stays goes does = does
  stays_placed l after (ask.Step index) told stays goes does = does
  stays_placed l after (ask.Bytes index) told stays goes does = does
  stays_placed l after (ask.Later event args) told stays goes does = does
  stays_placed l after (ask.Job index) told stays goes does = does
  stays_placed l after (ask.JobStep index) told stays goes does = does
  stays_placed l after (ask.JobBytes index) told stays goes does = does
  stays_placed l after (ask.Cycle index) told stays goes does = does
  stays_placed l after (ask.Before index) told stays goes does = does
  stays_placed l after ask.Gather told stays goes does = does
  stays_placed l after (ask.RowAt index) told stays goes does = does
  stays_placed l after ask.Renew told stays goes does = absurd (stays refl)
  stays_placed l after ask.End told stays goes does = absurd (goes refl)
  stays_placed l after ask.Return told stays goes does = does
  stays_placed l after ask.Close told stays goes does = does

  pub stays_open : (h after : Held A C E B D F) (asked : Ask) (told : Outcome) → (asked ≡ ask.Close → ⊥) → (asked ≡ ask.Return → ⊥)
      → DoesHeld h asked after told → DoesOpen h asked (Some after) told
  stays_open h after (ask.Open text lanes) told open' kept does = does
  stays_open h after (ask.Raise event args) told open' kept does = does
  stays_open h after (ask.Command row) told open' kept does = does
  stays_open h after (ask.Step index) told open' kept does = does
  stays_open h after (ask.Bytes index) told open' kept does = does
  stays_open h after (ask.Later event args) told open' kept does = does
  stays_open h after (ask.Job index) told open' kept does = does
  stays_open h after (ask.JobStep index) told open' kept does = does
  stays_open h after (ask.JobBytes index) told open' kept does = does
  stays_open h after (ask.Cycle index) told open' kept does = does
  stays_open h after (ask.Before index) told open' kept does = does
  stays_open h after ask.Gather told open' kept does = does
  stays_open h after (ask.RowAt index) told open' kept does = does
  stays_open h after ask.Renew told open' kept does = does
  stays_open h after ask.End told open' kept does = does
  stays_open h after ask.Return told open' kept does = absurd (kept refl)
  stays_open h after ask.Close told open' kept does = absurd (open' refl)

  -- a lane stays well as its seat does
  pub stays_well : (l : Lane A C E B D F) (seat : SeatValue) → IsWellLane l → IsSamePen l.away.seat.pen seat.pen → IsSeat (data_of (arc_value l.party).hub.setup) seat
      → seat.base ≡ l.away.seat.base → IsWellAt (arc_value l.party) (record l.away { seat = seat }) l.waiting l.room
  stays_well l seat well same whole first = record {
    party = rw first well.0.party;
    own = ((well.0.own.0.0, well.0.own.0.1 ∙ sym same.2), record { own = same.0 ∙ well.0.own.1.own; lane_is = refl; is_seat = (whole, refl) });
    others = rw first well.0.others;
    whole = whole_as (arc_value l.party).hub.log.lanes l.away.seat seat l.waiting l.waiting l.room refl same.2 well.0.whole;
  }

-- the row of a lane is of that lane
digit : (a lane : ℕ) → lane < 16 → (a % 2 ^ 49 + 2 ^ 49 * lane + 2 ^ 53 * (a / 2 ^ 53)) / 2 ^ 49 % 16 ≡ lane
digit a lane few = omega arith

pub lane_in : (lane : ℕ) (row : Row) → lane < 16 → lane_of (in_lane lane row) ≡ lane
unfolding lane_of
lane_in lane row few = digit row.a lane few
