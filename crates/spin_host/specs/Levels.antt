-- Open raises within one another.
use Rattle.std.specs.Prelude.{ℕ, ◌≡◌, ◌<◌, ◌≤◌, ◌+◌, ◌++◌, ◌&&◌, ◌⊎◌, nat_lt, Bool, true, false, List, [], ◌∷◌, length}
use Rattle.std.specs.Prelude.{flat_map, slice_get, Option, Some, None, IsSome, IsSomeAnd, if◌then◌else◌}
use Rattle.std.specs.List.{All}
use Rattle.std.specs.Arc.{arc_value}
use Rattle.spin_values.specs.declared.types.EventType.{EventType}
use Rattle.spin_values.specs.declared.values.Value.{Value}
use Rattle.spin_objects.specs.declared.item.Item.{Item}
use Rattle.spin_objects.specs.declared.item.Item.TheVariants as item
use Rattle.spin_raise.specs.Firing.{Bound}
use Rattle.spin_table.specs.Setups.{SetupData}
use Rattle.spin_table.specs.States.{State, VersionValue}
use Rattle.spin_table.specs.Soundness.{IsSoundVersion}
use Rattle.spin_proto.specs.declared.reply.TheConstants.{MAX_RUNS}
use Rattle.spin_proto.specs.Replies.{AreBounds, types_in, units_in}
use Rattle.spin_host.specs.declared.firing.Firing.{Firing}
use Rattle.spin_host.specs.declared.frame.Frame.{Frame}
use Rattle.spin_host.specs.declared.open.Level.{Level}
use Rattle.spin_host.specs.declared.open.OpenRaise.{OpenRaise}
use Rattle.spin_host.specs.declared.turn.Turn.{Turn}
use Rattle.spin_host.specs.declared.turn.Turn.TheVariants as turn
use Rattle.spin_host.specs.declared.upward.Upward.{Upward}
use Rattle.spin_host.specs.OpenRaises.{Next}
use Rattle.spin_host.specs.Frames.{due_in, firing_at, Begins, Ends, Stays}

-- it holds of the event of that number, and its type, as raises find it in this state
abbrev pub OnEvent : SetupData → State → ℕ → (EventType → Bound → Type 0) → Type 0
OnEvent d s event P =
    (bounds : List Bound) (sig : EventType) (e : Bound) → AreBounds d.events s.events bounds
    → slice_get (types_in d) event ≡ Some sig → slice_get bounds event ≡ Some e → P sig e

-- it holds of the event of the innermost raise
abbrev pub OnTop : SetupData → OpenRaise → (EventType → Bound → Type 0) → Type 0
OnTop d o P = OnEvent d (arc_value o.version).state o.top.frame.event P

-- a raise upwards goes to an event after this one, of so many
abbrev pub IsUpward : ℕ → ℕ → Upward → Type 0
IsUpward event count up = (event < up.event) × (up.event < count)

-- the raises upwards among what was given, in order
abbrev pub up_in : ℕ → ℕ → Item → List Upward
up_in event count (item.Up to args) =
    if nat_lt event to && nat_lt to count then record { event = to; args = args } ∷ [] else []
up_in event count i = []

abbrev pub ups_in : ℕ → ℕ → List Item → List Upward
ups_in event count given = flat_map (up_in event count) given

-- its event is one of so many, and its raises upwards go to events after it
abbrev pub IsLevel : ℕ → Level → Type 0
IsLevel count l = (l.frame.event < count) × All (IsUpward l.frame.event count) l.ups

-- no raise stands deeper than its event's number says
abbrev pub AreNested : ℕ → List Level → Type 0
AreNested depth [] = Unit {0}
AreNested depth (l ∷ levels) = (depth ≤ l.frame.event) × AreNested (depth + 1) levels

-- an open raise on a version that is sound for the setup, in which no more handlers have started than may
pub record IsOpen (d : SetupData) (o : OpenRaise) : Type 0 where
  pub sound : IsSoundVersion d (arc_value o.version)
  pub top : IsLevel (length d.events) o.top
  pub below : All (IsLevel (length d.events)) o.below
  pub nested : AreNested 0 (o.below ++ o.top ∷ [])
  pub few : o.started ≤ MAX_RUNS

-- fewer raises are around the innermost one than there are events, and no more handlers have started than may
abbrev pub NestingEnds : Type 0
NestingEnds = (d : SetupData) (o : OpenRaise) → IsOpen d o → (length o.below < length d.events) × (o.started ≤ MAX_RUNS)

-- a raise in which nothing was told yet
abbrev pub IsFresh : ℕ → List Value → Bool → Level → Type 0
IsFresh event args by_act l =
    (l.frame.event ≡ event) × Begins args l.frame × (l.ups ≡ []) × (l.by_act ≡ by_act)

-- nothing else is changed than the innermost raise and what was given
abbrev pub IsAtTop : OpenRaise → OpenRaise → Type 0
IsAtTop o o' = (o'.version ≡ o.version) × (o'.below ≡ o.below) × (o'.top.frame.event ≡ o.top.frame.event)
    × (o'.top.by_act ≡ o.top.by_act)

-- a raise of an event on these arguments on this version, and none within it
abbrev pub IsBegun : VersionValue → ℕ → List Value → OpenRaise → Type 0
IsBegun version event args o =
    (arc_value o.version ≡ version) × IsFresh event args false o.top × (o.below ≡ []) × (o.given ≡ []) × (o.started ≡ 0)

-- a raise that the host opened from within
abbrev pub IsWithin : ℕ → List Value → OpenRaise → OpenRaise → Type 0
IsWithin event args o o' =
    IsFresh event args false o'.top × (o'.below ≡ o.below ++ o.top ∷ []) × (o'.version ≡ o.version)
    × (o'.given ≡ o.given) × (o'.started ≡ o.started)

-- a raise upwards that an act asked for
abbrev pub IsUpOpened : Upward → OpenRaise → OpenRaise → Type 0
IsUpOpened up o o' =
    IsFresh up.event up.args true o'.top × (o'.below ≡ o.below ++ o.top ∷ []) × (o'.version ≡ o.version)
    × (o'.started ≡ o.started)

-- a firing is told, whether it was told before or is new, unless it is new and no handler may start
abbrev pub told_or_spent : Bool → Bool → Firing → Turn
told_or_spent true full firing = turn.Due firing
told_or_spent false true firing = turn.Spent
told_or_spent false false firing = turn.Due firing

abbrev pub after_telling : Bool → Bool → OpenRaise → OpenRaise
after_telling true full o = o
after_telling false true o = record o { top = record o.top { frame = record o.top.frame { due = None } } }
after_telling false false o = record o { started = o.started + 1 }

-- a handler starts when it is told for the first time
abbrev pub started_after : Option Next → ℕ → ℕ
started_after None started = started + 1
started_after (Some n) started = started

-- the innermost raise was opened by an act and ended, or by the host, or is the outermost one
abbrev pub IsBack : OpenRaise → OpenRaise → Bool → Type 0
IsBack o o' by_act = (o.top.by_act ≡ by_act) × (o.below ≡ o'.below ++ o'.top ∷ [])

-- the innermost raise ends with its answer so far
abbrev pub IsEnd : OpenRaise → Turn → OpenRaise → Type 0
IsEnd o (turn.Back a) o' =
    (a ≡ o.top.frame.progress.answer) × IsBack o o' true × (o'.version ≡ o.version) × (o'.given ≡ o.given)
    × (o'.started ≡ o.started)
IsEnd o (turn.Ended a) o' =
    (a ≡ o.top.frame.progress.answer) × (o'.version ≡ o.version) × (o'.given ≡ o.given) × (o'.started ≡ o.started)
    × (IsBack o o' false ⊎ ((o.below ≡ []) × (o' ≡ o)))
IsEnd o other o' = ⊥

-- what the innermost raise tells, which raises nothing upwards any more
abbrev pub ComesNext : SetupData → OpenRaise → Turn → OpenRaise → Type 0
ComesNext d o (turn.Due firing) o' =
    IsAtTop o o' × (o'.top.ups ≡ o.top.ups)
    × OnTop d o (λ sig e. Stays (units_in d) e o.top.frame o'.top.frame
    × IsSomeAnd (due_in e o'.top.frame) (λ n. firing ≡ firing_at o.top.frame.event n)
    × (o'.started ≡ started_after (due_in e o.top.frame) o.started))
ComesNext d o turn.Spent o' =
    IsAtTop o o' × (o'.top.ups ≡ o.top.ups) × (o'.started ≡ o.started) × (MAX_RUNS ≤ o.started)
    × OnTop d o (λ sig e. (due_in e o.top.frame ≡ None) × Stays (units_in d) e o.top.frame o'.top.frame
    × ((f : Frame) × Stays (units_in d) e o.top.frame f × IsSome (due_in e f)))
ComesNext d o (turn.Back a) o' =
    (o'.version ≡ o.version) × (o'.started ≡ o.started) × IsBack o o' true
    × OnTop d o (λ sig e. Ends (units_in d) e o.top.frame a)
ComesNext d o (turn.Ended a) o' =
    (o'.version ≡ o.version) × (o'.started ≡ o.started)
    × OnTop d o (λ sig e. Ends (units_in d) e o.top.frame a)
    × (IsBack o o' false
    ⊎ ((o.below ≡ []) × IsAtTop o o' × (o'.top.ups ≡ o.top.ups) × OnTop d o (λ sig e. Stays (units_in d) e o.top.frame o'.top.frame)))
ComesNext d o (turn.Up event) o' = ⊥

-- what comes next: the first raise upwards that is still to be opened, or else what the innermost raise tells
abbrev pub IsTurn : SetupData → List Upward → OpenRaise → Turn → OpenRaise → Type 0
IsTurn d (up ∷ rest) o t o' =
    (t ≡ turn.Up up.event) × IsFresh up.event up.args true o'.top
    × (o'.below ≡ o.below ++ record o.top { ups = rest } ∷ []) × (o'.version ≡ o.version) × (o'.started ≡ o.started)
IsTurn d [] o t o' = ComesNext d o t o'
