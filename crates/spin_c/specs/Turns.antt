-- What a call does to what a handle holds, and what it comes to.
use Rattle.std.specs.Prelude.{◌≡◌, ◌≢◌, ◌<◌, ◌≤◌, ◌⊎◌, ℕ, ◌+◌, ◌*◌, ◌/◌, ◌%◌, ◌^◌, List, [], Option}
use Rattle.std.specs.Prelude.{None, Some, slice_get, Result, Ok, Err, ⊤}
use Rattle.std.specs.Arc.{arc_value}
use Rattle.spin_word.specs.declared.command.Command.{Command}
use Rattle.spin_word.specs.declared.command.TheConstants.{MAX_LANES}
use Rattle.spin_word.specs.declared.row.Row.{Row}
use Rattle.spin_word.specs.declared.work.Deed.{Deed}
use Rattle.spin_word.specs.declared.work.Deed.TheVariants as deed
use Rattle.spin_proto.specs.declared.reply.Reply.{Reply}
use Rattle.spin_proto.specs.Replies.{calls_left}
use Rattle.spin_table.specs.SetupOf.{data_of}
use Rattle.spin_script.specs.Language.{IsScript}
use Rattle.spin_script.specs.Scripts.{IsBad}
use Rattle.spin_script.specs.States.{NativeData, ScriptData}
use Rattle.spin_script.specs.declared.script.ScriptFault.TheVariants as fault
use Rattle.spin_seat.specs.Replay.{IsReplayFrom}
use Rattle.spin_seat.specs.Seats.{version_of}
use Rattle.spin_seat.specs.Calls.{GivesFrom, AddsAtMostAPin, reply_answer}
use Rattle.spin_c.specs.Cycles.{binding_told}
use Rattle.spin_c.specs.Jobs.{DoesJob}
use Rattle.spin_c.specs.Judging.{Judges}
use Rattle.spin_c.specs.Kept.{cycle_left, job_left, pinned_for, replied, reply_left}
use Rattle.spin_c.specs.Trails.{IsHanded, IsTold, step_at, told_of}
use Rattle.spin_c.specs.Verdicts.{no_natives}
use Rattle.spin_c.specs.declared.lane.Lane.{Lane}
use Rattle.spin_c.specs.declared.ask.Ask.{Ask}
use Rattle.spin_c.specs.declared.ask.Ask.TheVariants as ask
use Rattle.spin_c.specs.declared.ask.Told.{Told}
use Rattle.spin_c.specs.declared.ask.Outcome.{Outcome}
use Rattle.spin_c.specs.declared.ask.Outcome.TheVariants as outcome
use Rattle.spin_word.specs.Rows.{StandsFor, StandsForNone}
use Rattle.spin_c.specs.Renewing.{EndsTo, Gathers, RenewsTo, number_before, row_at}
use Rattle.spin_c.specs.Waiting.{IsLaneAnd, IsStarted, KeepsHub}
use Rattle.spin_c.specs.declared.lane.Held.{Held}
use Rattle.spin_c.specs.declared.lane.Held.TheVariants as held

-- Below, A and B, C and D, E and F are the kinds of the boxed handlers, guards and authorisers.

-- ---- opening

-- a hub has so many lanes
abbrev pub IsCount : ℕ → Type 0
IsCount lanes = (0 < lanes) × (lanes ≤ MAX_LANES)

-- The lane is the first of so many over the setup of the script, at its start.
pub record IsOpened {A C E : Type 0} {B : A → Type 0} {D : C → Type 0}
    {F : E → Type 0} (natives : NativeData) (text : List ℕ) (lanes : ℕ)
    (l : Lane A C E B D F) : Type 0 where
  pub script : ScriptData
  pub read : IsScript natives text (Ok script)
  pub setup : data_of (arc_value l.party).hub.setup ≡ script.setup
  pub lanes_are : IsCount lanes
  pub started : IsStarted lanes l

-- Why there is no lane over this text: no hub has so many lanes; or one has, and it is no script, or there was no
-- memory.
abbrev pub NotOpened : NativeData → List ℕ → ℕ → Outcome → Type 0
NotOpened natives text lanes outcome.NoLane = (lanes ≡ 0) ⊎ (MAX_LANES < lanes)
NotOpened natives text lanes (outcome.Bad line cause) =
    IsBad natives text (fault.Bad line cause) × IsCount lanes
NotOpened natives text lanes outcome.NoMemory = IsCount lanes
NotOpened natives text lanes other = ⊥

abbrev pub Opens : {A C E : Type 0} {B : A → Type 0} {D : C → Type 0} {F : E → Type 0}
    → NativeData → List ℕ → ℕ → Result (Lane A C E B D F) Outcome → Type 0
Opens natives text lanes (Ok l) = IsOpened natives text lanes l
Opens natives text lanes (Err why) = NotOpened natives text lanes why

-- what a closed handle holds afterwards, and what is answered
abbrev pub OpensTo : {A C E : Type 0} {B : A → Type 0} {D : C → Type 0} {F : E → Type 0}
    → NativeData → List ℕ → ℕ → Option (Held A C E B D F) → Outcome → Type 0
OpensTo natives text lanes (Some h) told =
    IsLaneAnd h (λ l. IsOpened natives text lanes l) × (told ≡ outcome.Done)
OpensTo natives text lanes None told = NotOpened natives text lanes told

-- ---- raising

-- The deed has this reply, which is that of the plain dispatcher at that place; it is told so and kept, and where it leaves
-- calls to jobs also the version on which it was given, whose state is the replay of the rows that the log had then.
pub record IsRaised {A C E : Type 0} {B : A → Type 0} {D : C → Type 0}
    {F : E → Type 0} (l : Lane A C E B D F) (asked : Deed) (after : Lane A C E B D F) (place : ℕ) (told : Told)
    : Type 0 where
  pub reply : Reply
  pub kept : after.reply ≡ Some (replied record {
    reply = reply;
    pinned = pinned_for (calls_left reply) (version_of after.away.seat);
    job = None;
  })
  pub replay : IsReplayFrom (data_of (arc_value l.party).hub.setup) l.away.seat.base after.away.seat.pen.front after.away.seat.state
  pub gives : GivesFrom (data_of (arc_value l.party).hub.setup) l.away.seat.base l.away.seat.pen
      (reply_answer l.away.seat.pen.lane asked place reply) after.away.seat.pen
  pub told_is : told ≡ told_of reply

-- what a raise comes to, or one that is left to a job
abbrev pub Raises : {A C E : Type 0} {B : A → Type 0} {D : C → Type 0} {F : E → Type 0}
    → Lane A C E B D F → Deed → Lane A C E B D F → Outcome → Type 0
Raises l asked after (outcome.Raised place told) = KeepsHub l after × IsRaised l asked after place told
Raises l asked after outcome.NoMemory =
    KeepsHub l after × AddsAtMostAPin l.away.seat.pen after.away.seat.pen × (after.reply ≡ None)
Raises l asked after other = ⊥

-- what the job at an index comes to of those that the reply leaves that is kept; the seat stays
abbrev pub Works : {A C E : Type 0} {B : A → Type 0} {D : C → Type 0} {F : E → Type 0}
    → Lane A C E B D F → ℕ → Lane A C E B D F → Outcome → Type 0
Works l index after told =
    KeepsHub l after × (after.away.seat ≡ l.away.seat)
    × DoesJob (data_of (arc_value l.party).hub.setup) l.reply index after.reply told

-- ---- commands

-- the row, of this lane whatever its four bits of a lane are
abbrev pub in_lane : ℕ → Row → Row
in_lane lane row = record row { a = row.a % 2 ^ 49 + 2 ^ 49 * lane + 2 ^ 53 * (row.a / 2 ^ 53) }

-- The row, of the seat's lane, stands for a command, which is judged, or not.
pub record IsCommanded {A C E : Type 0} {B : A → Type 0} {D : C → Type 0}
    {F : E → Type 0} (l : Lane A C E B D F) (row : Row) (after : Lane A C E B D F) (told : Outcome) : Type 0 where
  pub keeps : KeepsHub l after
  pub command : Command
  pub stands : StandsFor (in_lane l.away.seat.pen.lane row) command
  pub judges :
      Judges (data_of (arc_value l.party).hub.setup) l.lanes l.away.seat command after.away.seat after.reply told

-- What the command of a row comes to. Only where the row stands for one it is judged, or told why it isn't.
abbrev pub Commands : {A C E : Type 0} {B : A → Type 0} {D : C → Type 0} {F : E → Type 0}
    → Lane A C E B D F → Row → Lane A C E B D F → Outcome → Type 0
Commands l row after outcome.NoCommand = (after ≡ l) × StandsForNone (in_lane l.away.seat.pen.lane row)
Commands l row after told = IsCommanded l row after told

-- ---- a call

-- what is asked of a lane does this, but for a renewal, an end and a close
abbrev pub Does : {A C E : Type 0} {B : A → Type 0} {D : C → Type 0} {F : E → Type 0}
    → Lane A C E B D F → Ask → Lane A C E B D F → Outcome → Type 0
Does l (ask.Open text lanes) after told = (after ≡ l) × (told ≡ outcome.Open)
Does l (ask.Raise event args) after told = Raises l (deed.Raise event args) after told
Does l (ask.Later event args) after told = Raises l (deed.Later event args) after told
Does l (ask.Job index) after told = Works l index after told
Does l (ask.Command row) after told = Commands l row after told
Does l (ask.Step index) after told = (after ≡ l) × IsTold (step_at (reply_left l.reply) index) told
Does l (ask.Bytes index) after told = (after ≡ l) × IsHanded (step_at (reply_left l.reply) index) told
Does l (ask.JobStep index) after told = (after ≡ l) × IsTold (step_at (job_left l.reply) index) told
Does l (ask.JobBytes index) after told = (after ≡ l) × IsHanded (step_at (job_left l.reply) index) told
Does l (ask.Cycle index) after told = (after ≡ l) × (told ≡ binding_told (slice_get (cycle_left l.reply) index))
Does l (ask.Before index) after told = (after ≡ l) × (told ≡ number_before l.before index)
Does l ask.Gather after told = Gathers l after told
Does l (ask.RowAt index) after told = (after ≡ l) × (told ≡ outcome.NoRow)
Does l other after told = (after ≡ l) × (told ≡ outcome.Done)

-- what a hub tells that was ended
abbrev pub ended_told : List Row → Ask → Outcome
ended_told rows (ask.Open text lanes) = outcome.Open
ended_told rows (ask.RowAt index) = row_at rows index
ended_told rows other = outcome.Ended

-- what an open handle holds stays, but for a close
abbrev pub DoesHeld : {A C E : Type 0} {B : A → Type 0} {D : C → Type 0} {F : E → Type 0}
    → Held A C E B D F → Ask → Held A C E B D F → Outcome → Type 0
DoesHeld (held.Lane l) ask.Renew after told = IsLaneAnd after (λ new. RenewsTo l new told)
DoesHeld (held.Lane l) ask.End after told = EndsTo l after told
DoesHeld (held.Lane l) asked after told = IsLaneAnd after (λ new. Does l asked new told)
DoesHeld (held.Ended rows) asked after told = (after ≡ held.Ended rows) × (told ≡ ended_told rows asked)

-- why a handle isn't closed as one whose seat was handed out
abbrev pub IsKept : {A C E : Type 0} {B : A → Type 0} {D : C → Type 0} {F : E → Type 0}
    → Held A C E B D F → Outcome → Type 0
IsKept (held.Lane l) told = (l.waiting ≢ []) × (told ≡ outcome.NoLane)
IsKept (held.Ended rows) told = told ≡ outcome.Ended

-- a handle is closed whose seat was handed out, and no other
abbrev pub Returns : {A C E : Type 0} {B : A → Type 0} {D : C → Type 0} {F : E → Type 0}
    → Held A C E B D F → Option (Held A C E B D F) → Outcome → Type 0
Returns h after told =
    (IsLaneAnd h (λ l. l.waiting ≡ []) × (after ≡ None) × (told ≡ outcome.Done))
    ⊎ (IsKept h told × (after ≡ Some h))

-- a closed handle can only be opened
abbrev pub DoesClosed : {A C E : Type 0} {B : A → Type 0} {D : C → Type 0} {F : E → Type 0}
    → NativeData → Ask → Option (Held A C E B D F) → Outcome → Type 0
DoesClosed natives (ask.Open text lanes) after told = OpensTo natives text lanes after told
DoesClosed natives other after told = (after ≡ None) × (told ≡ outcome.Closed)

-- an open handle stays open until it is closed
abbrev pub DoesOpen : {A C E : Type 0} {B : A → Type 0} {D : C → Type 0} {F : E → Type 0}
    → Held A C E B D F → Ask → Option (Held A C E B D F) → Outcome → Type 0
DoesOpen h ask.Close after told = (after ≡ None) × (told ≡ outcome.Done)
DoesOpen h ask.Return after told = Returns h after told
DoesOpen h asked None told = ⊥
DoesOpen h asked (Some after) told = DoesHeld h asked after told

abbrev pub Turns : {A C E : Type 0} {B : A → Type 0} {D : C → Type 0} {F : E → Type 0}
    → NativeData → Option (Held A C E B D F) → Ask → Option (Held A C E B D F) → Outcome → Type 0
Turns natives None asked after told = DoesClosed natives asked after told
Turns natives (Some h) asked after told = DoesOpen h asked after told

-- what is handed in is copied before the call is done; a text only for a hub that there can be
abbrev pub IsCopied : Ask → Type 0
IsCopied (ask.Open text lanes) = IsCount lanes
IsCopied (ask.Raise event args) = ⊤
IsCopied (ask.Later event args) = ⊤
IsCopied other = ⊥

-- The call does so; or there was no memory to copy what is handed in, and the handle is as it was.
abbrev pub IsCalled : {A C E : Type 0} {B : A → Type 0} {D : C → Type 0} {F : E → Type 0}
    → Option (Held A C E B D F) → Ask → Option (Held A C E B D F) → Outcome → Type 0
IsCalled kept asked after told =
    Turns no_natives kept asked after told
    ⊎ ((after ≡ kept) × (told ≡ outcome.NoMemory) × IsCopied asked)
