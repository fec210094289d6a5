-- What deeds and jobs come to on a version.
use Rattle.std.specs.Prelude.{ℕ, ◌≡◌, ◌<◌, Bool, false, if◌then◌else◌, IsTrue, List, []}
use Rattle.std.specs.Prelude.{◌∷◌, map, length, slice_get}
use Rattle.std.specs.Option.{option_map_or}
use Rattle.std.specs.Cmp.Lexicographic.{pointwise}
use Rattle.spin_values.specs.declared.types.EventType.{EventType}
use Rattle.spin_values.specs.declared.values.Value.{Value}
use Rattle.spin_values.specs.Kinds.{kind_of, kinds_of}
use Rattle.spin_code.specs.Uses.{same_kind}
use Rattle.spin_place.specs.declared.binding.Binding.{Binding}
use Rattle.spin_place.specs.Precedence.{IsTheOrder}
use Rattle.spin_table.specs.declared.event.EventDef.{EventDef}
use Rattle.spin_table.specs.Setups.{SetupData, tests_in}
use Rattle.spin_table.specs.States.{State, EventState, binding_of, is_live}
use Rattle.spin_table.specs.Steps.{bindings_at}
use Rattle.spin_table.specs.Orders.{arranged}
use Rattle.spin_raise.specs.declared.bound.Runner.TheVariants as runner
use Rattle.spin_raise.specs.Firing.{Units, Bound, bound_of}
use Rattle.spin_word.specs.declared.work.Deed.{Deed}
use Rattle.spin_word.specs.declared.work.Deed.TheVariants as deed
use Rattle.spin_proto.specs.declared.deed.JobCall.{JobCall}
use Rattle.spin_proto.specs.declared.deed.JobCall.TheVariants as call
use Rattle.spin_proto.specs.declared.reply.TheConstants.{MAX_RUNS}
use Rattle.spin_proto.specs.declared.reply.Reply.{Reply}
use Rattle.spin_proto.specs.declared.reply.Reply.TheVariants as reply
use Rattle.spin_proto.specs.Whole.{raised, raised_after, reply_of, job_of}

-- the arguments have the number and kinds of the parameters
abbrev pub are_fit : EventType → List Value → Bool
are_fit sig args = pointwise same_kind (map kind_of args) (kinds_of sig)

-- this reply, where the event is there and the arguments fit
abbrev pub reply_if_fit : List EventType → ℕ → List Value → Reply → Reply
reply_if_fit types event args answer =
    option_map_or (λ sig. if are_fit sig args then answer else reply.WrongArgs)
    (slice_get types event) reply.UnknownEvent

-- the reply to a deed on these events
abbrev pub deed_reply : Units → List Bound → List EventType → Deed → Reply
deed_reply u bounds types (deed.Raise event args) =
    reply_if_fit types event args (reply_of MAX_RUNS (raised runner.Raiser u bounds 0 event args))
deed_reply u bounds types (deed.Later event args) = reply_if_fit types event args (reply.Queued (call.Whole event args))

-- the handler of the binding of that number, 0 where there is none
abbrev pub handler_at : List Bound → ℕ → ℕ → ℕ
handler_at bounds event number =
    option_map_or (λ (b : Bound). option_map_or (λ (x : Binding). x.handler) (binding_of b.bindings number) 0)
    (slice_get bounds event) 0

-- the reply to the call of a job on these events: nothing is left to another job
abbrev pub job_reply : Units → List Bound → JobCall → Reply
job_reply u bounds (call.Whole event args) = reply_of MAX_RUNS (raised runner.Job u bounds 0 event args)
job_reply u bounds (call.Binding event number args) =
    reply_of MAX_RUNS
    (job_of u event number (handler_at bounds event number) (raised_after runner.Job u bounds event) args)

-- the acts and tests of a setup
abbrev pub units_in : SetupData → Units
units_in d = record { acts = map (λ h. h.act) d.handlers; tests = tests_in d }

-- the types of a setup's events
abbrev pub types_in : SetupData → List EventType
types_in d = map (λ e. e.sig) d.events

-- the event is there, and the arguments fit it
abbrev pub is_fit : List EventType → ℕ → List Value → Bool
is_fit types event args = option_map_or (λ sig. are_fit sig args) (slice_get types event) false

-- so it is of the deed: it is refused neither for its event nor for its arguments
abbrev pub IsFitDeed : SetupData → Deed → Type 0
IsFitDeed d (deed.Raise event args) = IsTrue (is_fit (types_in d) event args)
IsFitDeed d (deed.Later event args) = IsTrue (is_fit (types_in d) event args)

-- an event in this state as a raise finds it: its bindings in the order in which they run, its merge and its default
abbrev pub IsBound : EventDef → EventState → Bound → Type 0
IsBound e t b = (ns : List ℕ) × IsTheOrder t.bindings ns × (b ≡ bound_of (arranged t.bindings ns) e.merge t.default)

-- the events in these states as raises find them
abbrev pub AreBounds : List EventDef → List EventState → List Bound → Type 0
AreBounds [] [] [] = Unit {0}
AreBounds (e ∷ es) (t ∷ ts) (b ∷ bs) = IsBound e t b × AreBounds es ts bs
AreBounds es ts bs = ⊥

-- the reply to a deed in this state
abbrev pub IsDeedReply : SetupData → State → Deed → Reply → Type 0
IsDeedReply d s asked answer =
    (bounds : List Bound) × AreBounds d.events s.events bounds
    × (answer ≡ deed_reply (units_in d) bounds (types_in d) asked)

-- the reply to the call of a job in this state
abbrev pub IsJobReply : SetupData → State → JobCall → Reply → Type 0
IsJobReply d s asked answer =
    (bounds : List Bound) × AreBounds d.events s.events bounds × (answer ≡ job_reply (units_in d) bounds asked)

-- a call of a job that this state may have left: its event is there, and so is its binding
abbrev pub BelongsTo : State → JobCall → Type 0
BelongsTo s (call.Whole event args) = event < length s.events
BelongsTo s (call.Binding event number args) = IsTrue (is_live (bindings_at s event) number)

-- the calls of jobs that a reply leaves
abbrev pub calls_left : Reply → List JobCall
calls_left (reply.Ran answer trace jobs) = jobs
calls_left (reply.Queued queued) = queued ∷ []
calls_left other = []
