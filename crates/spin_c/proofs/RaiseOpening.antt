-- What is handed in to open a raise on a lane, and a pin of the lane's seat.
use Rattle.std.proofs.Common.{◌≡◌, ◌≢◌, ◌∙◌, ℕ, List, [], Option, Some, None, Result, Ok, Err, refl, sym, ap, subst, inl, inr}
use Rattle.std.specs.Arc.{arc_value}
use Rattle.std.specs.Prelude.{All, IfOk, MatchOption, MatchResult, OnErr, OnOk, map, slice_get, ◌⊎◌}
use Rattle.spin_values.specs.declared.values.Value.{Value}
use Rattle.spin_host.specs.declared.fault.RaiseFault.{RaiseFault}
use Rattle.spin_host.specs.Levels.{IsBegun}
use Rattle.spin_host.specs.Opening.{begin_fault}
use Rattle.spin_table.specs.SetupOf.{data_of}
use Rattle.spin_seat.specs.Seats.{version_of}
use Rattle.spin_word.specs.declared.row.Row.{Row}
use Rattle.spin_c.specs.declared.ask.Ask.TheVariants as asked
use Rattle.spin_c.specs.declared.ask.Outcome.{Outcome}
use Rattle.spin_c.specs.declared.given.SpinArg.{SpinArg}
use Rattle.spin_c.specs.declared.lane.Held.{Held}
use Rattle.spin_c.specs.declared.lane.Held.TheVariants as held
use Rattle.spin_c.specs.declared.moves.Move.TheVariants as move
use Rattle.spin_c.specs.declared.moves.Upshot.{Upshot}
use Rattle.spin_c.specs.declared.moves.Upshot.TheVariants as upshot
use Rattle.spin_c.specs.declared.lane.Lane.{Lane}
use Rattle.spin_c.specs.declared.raising.Opened.{Opened}
use Rattle.spin_c.specs.declared.raising.Raising.{Raising}
use Rattle.spin_c.specs.declared.raising.Raising.TheVariants as raising
use Rattle.spin_c.specs.Beginnings.{Begins, BeginsIn, BeginsOn, IsOpened, IsPinned}
use Rattle.spin_c.specs.Given.{IsGiven, value_of}
use Rattle.spin_c.specs.Moves.{Moves}
use Rattle.spin_c.specs.Inner.Refusals.{IsUnfit, missed_by, missed_of, told_first}
use Rattle.spin_c.specs.OpenTellings.{BeginsWith}
use Rattle.spin_c.specs.Raisings.{IsIdle, IsRaising, IsShut}
use Rattle.spin_c.specs.Renewing.{number_at}
use Rattle.spin_c.specs.Turns.{Turns}
use Rattle.spin_c.specs.Uttered.{refusal_told}
use Rattle.spin_c.specs.Verdicts.{no_natives}
use Rattle.spin_c.specs.Waiting.{KeepsHub}
use Rattle.spin_c.proofs.OpenMoves.{lends_idle}

-- what is so of an answer, and what of none
pub answered_or : {N : Type 0} {A P : ℕ → Type 0} {V W : Type 0} (Q : Type 0) (r : Result ℕ N) → IfOk r A → OnOk r V → OnOk r W → OnErr r Q → ((n : ℕ) → A n → V → W → P n)
    → MatchResult r P (λ _. Q)
answered_or Q (Ok n) a v w q p = p n a v w
answered_or Q (Err why) a v w q p = q

module _ {A C E : Type 0} {B : A → Type 0} {D : C → Type 0} {F : E → Type 0} (l after : Lane A C E B D F) (place event : ℕ) (args : List Value)
    (keeps : KeepsHub l after × (after.reply ≡ l.reply)) (pin : IsPinned (data_of (arc_value l.party).hub.setup) l.away.seat after.away.seat place) where
  -- there was no memory once the lane was pinned
  pub begun_without : (raised : Raising A C E B D F) → IsIdle raised → BeginsOn l event args after raised upshot.NoMemory
  begun_without raised idle = (keeps.0, keeps.1, inr (inr pin.reads, idle, refl))

  -- the raise isn't opened
  pub begun_not : (raised : Raising A C E B D F) (why : RaiseFault) → IsIdle raised → begin_fault (data_of (arc_value l.party).hub.setup) event args ≡ Some why
      → BeginsOn l event args after raised (refusal_told place why)
  begun_not raised why idle is = (
    keeps.0,
    keeps.1,
    inl record {
      place = place;
      pinned = pin;
      begun = subst (λ (f : Option RaiseFault). MatchOption f (IsOpened after event args raised × (refusal_told place why ≡ upshot.Begun place))
          (λ other. IsIdle raised × (refusal_told place why ≡ refusal_told place other))) (sym is) (idle, refl);
    },
  )

  -- it is
  pub begun_so : (o : Opened A C E B D F) → arc_value o.party ≡ arc_value after.party → IsBegun (version_of after.away.seat) event args o.raise
      → begin_fault (data_of (arc_value l.party).hub.setup) event args ≡ None → BeginsOn l event args after (raising.Open o) (upshot.Begun place)
  begun_so o shared begun none = (
    keeps.0,
    keeps.1,
    inl record {
      place = place;
      pinned = pin;
      begun = subst (λ (f : Option RaiseFault). MatchOption f (IsOpened after event args (raising.Open o) × (upshot.Begun place ≡ upshot.Begun place))
          (λ other. IsIdle (raising.Open o) × (upshot.Begun place ≡ refusal_told place other))) (sym none) ((shared, begun), refl);
    },
  )

module _ {A C E : Type 0} {B : A → Type 0} {D : C → Type 0} {F : E → Type 0} (h after : Held A C E B D F) (event : ℕ) (args : List Value) where
  -- what a handle holds is what it held, or room where it was closed
  pub begun_in : (other : Option (Raising A C E B D F)) (r raised : Raising A C E B D F) (told : Upshot) → (other ≡ Some r) ⊎ ((other ≡ None) × IsIdle r)
      → BeginsIn h r event args after raised told → Begins (Some h) other event args (Some after) (Some raised) told
  begun_in other r raised told (inl is) begins =
      subst (λ (o : Option (Raising A C E B D F)). Begins (Some h) o event args (Some after) (Some raised) told) (sym is) begins
  begun_in other (raising.Open o) raised told (inr none) begins = absurd none.1
  begun_in other (raising.Idle room) raised told (inr none) begins =
      subst (λ (o : Option (Raising A C E B D F)). Begins (Some h) o event args (Some after) (Some raised) told) (sym none.0) begins

module _ {A C E : Type 0} {B : A → Type 0} {D : C → Type 0} {F : E → Type 0} (kept : Option (Held A C E B D F)) (other : Option (Raising A C E B D F)) (event : ℕ) (bytes : List ℕ)
    (given : List SpinArg) where
  pub unlent_begin : (raised : Option (Raising A C E B D F)) (told : Upshot) → Moves other move.LendIdle raised told → ((room : Unit {0}) → told ≡ upshot.Lent room → ⊥)
      → BeginsWith kept other event bytes given kept raised told
  unlent_begin raised told m never = go (lends_idle other raised told m)
    where
      go : (raised ≡ other) × ((IsShut other × (told ≡ upshot.Lent tt)) ⊎ (IsRaising other × (told ≡ upshot.Open))) → BeginsWith kept other event bytes given kept raised told
      go (same, inl lent) = absurd (never tt lent.1)
      go (same, inr shuts) = subst (λ (t : Upshot). BeginsWith kept other event bytes given kept raised t) (sym shuts.1) (inl (refl, same, shuts.0))

  pub fit_begin : (lent raised : Option (Raising A C E B D F)) (after : Option (Held A C E B D F)) (args : List Value) (told : Upshot) → All (IsGiven bytes) given → IsShut other
      → lent ≡ other → args ≡ map (value_of bytes) given → Begins kept lent event args after raised told → BeginsWith kept other event bytes given after raised told
  fit_begin lent raised after args told fit shut same are b = inr (
    shut,
    fit,
    subst (λ (xs : List Value). Begins kept other event xs after raised told) are
        (subst (λ (r : Option (Raising A C E B D F)). Begins kept r event args after raised told) same b),
  )

number_missed : (o : Option ℕ) → missed_of (number_at o) ≡ upshot.NoMemory
number_missed None = refl
number_missed (Some n) = refl

module _ {A C E : Type 0} {B : A → Type 0} {D : C → Type 0} {F : E → Type 0} where
  -- on a hub that was ended nothing is begun, and no memory is wanted
  ended_begin : (rows : List Row) (other : Option (Raising A C E B D F)) (event : ℕ) (args : List Value) → IsShut other
      → Begins {A = A} {C = C} {E = E} {B = B} {D = D} {F = F} (Some (held.Ended rows)) other event args (Some (held.Ended rows)) other upshot.Ended
  ended_begin rows None event args shut = (refl, refl)
  ended_begin rows (Some (raising.Open o)) event args shut = absurd shut
  ended_begin rows (Some (raising.Idle room)) event args shut = (refl, tt, refl)

  unfit_as : (kept : Option (Held A C E B D F)) (other : Option (Raising A C E B D F)) (event : ℕ) (bytes : List ℕ) (given : List SpinArg) (why : Upshot)
      → IsUnfit (All (IsGiven bytes) given) (given ≢ []) why → IsShut other → BeginsWith kept other event bytes given kept other (told_first kept why)
  unfit_as kept other event bytes given upshot.NoArgument is shut = inl (refl, refl, (shut, is))
  unfit_as None other event bytes given upshot.NoMemory is shut = inr (shut, is.0, (refl, refl, refl))
  unfit_as (Some (held.Lane l)) other event bytes given upshot.NoMemory is shut = inl (refl, refl, (shut, is.0, is.1, tt))
  unfit_as (Some (held.Ended rows)) other event bytes given upshot.NoMemory is shut = inr (shut, is.0, ended_begin rows other event (map (value_of bytes) given) shut)
  unfit_as kept other event bytes given rest is shut = absurd is

  -- there are no values of the arguments
  pub unfit_begin : (kept after : Option (Held A C E B D F)) (other raised : Option (Raising A C E B D F)) (event : ℕ) (bytes : List ℕ) (given : List SpinArg) (why told : Upshot)
      → IsUnfit (All (IsGiven bytes) given) (given ≢ []) why → IsShut other → after ≡ kept → raised ≡ other → told ≡ told_first kept why
      → BeginsWith kept other event bytes given after raised told
  unfit_begin kept after other raised event bytes given why told is shut left same first =
      subst (λ (a : Option (Held A C E B D F)). BeginsWith kept other event bytes given a raised told) (sym left)
      (subst (λ (r : Option (Raising A C E B D F)). BeginsWith kept other event bytes given kept r told) (sym same)
      (subst (λ (t : Upshot). BeginsWith kept other event bytes given kept other t) (sym first) (unfit_as kept other event bytes given why is shut)))

  -- what a lane's handle tells of an old number says whether memory is wanted
  pub asked_before : (kept after : Option (Held A C E B D F)) (told : Outcome) → Turns no_natives kept (asked.Before 0) after told
      → (after ≡ kept) × (missed_of told ≡ missed_by kept)
  asked_before None after told m = (m.0, ap missed_of m.1)
  asked_before (Some h) None told m = absurd m
  asked_before (Some (held.Lane l)) (Some (held.Lane new)) told m =
      (ap (λ (x : Lane A C E B D F). Some (held.Lane x)) m.0, ap missed_of m.1 ∙ number_missed (slice_get l.before 0))
  asked_before (Some (held.Lane l)) (Some (held.Ended rows)) told m = absurd m
  asked_before (Some (held.Ended rows)) (Some after) told m = (ap Some m.0, ap missed_of m.1)
