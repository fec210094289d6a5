-- What a command changes: the step from one state to the next, as a relation.
use Rattle.std.specs.Prelude.{◌≡◌, ℕ, ◌+◌, Bool, true, false, not, ◌==◌, if◌then◌else◌, List}
use Rattle.std.specs.Prelude.{[], ◌∷◌, ◌++◌, map, filter, slice_get, slice_set, Option, None}
use Rattle.std.specs.Prelude.{Some, MatchOption, ⊤, Result, Ok, Err}
use Rattle.spin_word.specs.declared.command.Op.{Op}
use Rattle.spin_word.specs.declared.command.Op.TheVariants as op
use Rattle.spin_word.specs.declared.command.Place.{Place}
use Rattle.spin_word.specs.declared.command.Place.TheVariants as place
use Rattle.spin_word.specs.declared.command.Mode.{Mode}
use Rattle.spin_word.specs.declared.command.Mode.TheVariants as mode
use Rattle.spin_word.specs.declared.command.Command.{Command}
use Rattle.spin_word.specs.Commands.{no_number}
use Rattle.spin_policy.specs.declared.rule.Forced.{Forced}
use Rattle.spin_policy.specs.declared.rule.Forced.TheVariants as forced
use Rattle.spin_policy.specs.declared.rule.Rule.{Rule}
use Rattle.spin_policy.specs.declared.rule.Verdict.{Verdict}
use Rattle.spin_policy.specs.Imposed.{imposed_guards, forced_place, forces_apart}
use Rattle.spin_place.specs.declared.binding.Binding.{Binding}
use Rattle.spin_place.specs.Precedence.{IsCycle, HasLawfulOrder}
use Rattle.spin_table.specs.declared.event.EventDef.{EventDef}
use Rattle.spin_table.specs.declared.refusal.Refusal.{Refusal}
use Rattle.spin_table.specs.declared.refusal.Refusal.TheVariants as refusal
use Rattle.spin_table.specs.declared.refusal.Verdicted.{Verdicted}
use Rattle.spin_table.specs.declared.refusal.Verdicted.TheVariants as verdicted
use Rattle.spin_table.specs.declared.refusal.StepFault.{StepFault}
use Rattle.spin_table.specs.declared.refusal.StepFault.TheVariants as fault
use Rattle.spin_table.specs.Setups.{SetupData, rules_of}
use Rattle.spin_table.specs.States.{State, EventState, VersionValue}
use Rattle.spin_table.specs.Verdicts.{answer_to}
use Rattle.spin_table.specs.Refusals.{refusal_of}

-- no binding is named
abbrev pub no_numbers : List ℕ
no_numbers = no_number ∷ no_number ∷ no_number ∷ no_number ∷ []

-- the place that is forced, or else the one that is asked for
abbrev pub place_under : Forced → Place → Place
place_under forced.Keep asked = asked
place_under forced.First asked = place.First
place_under forced.Last asked = place.Last

-- a forced place leaves no other constraint
abbrev pub numbers_under : Forced → List ℕ → List ℕ
numbers_under forced.Keep asked = asked
numbers_under f asked = no_numbers

-- asynchronous, where that is forced, or else the mode that is asked for
abbrev pub mode_under : Bool → Mode → Mode
mode_under true asked = mode.Async
mode_under false asked = asked

-- the binding that a command installs under that number, where the owner's rules answer so
abbrev pub installed : List Rule → Verdict → ℕ → Command → Binding
installed rules v number c = record {
  number = number;
  requester = c.requester;
  handler = c.handler;
  own_guard = c.guard;
  imposed = imposed_guards rules v;
  place = place_under (forced_place rules v) c.place;
  before = numbers_under (forced_place rules v) c.before;
  after = numbers_under (forced_place rules v) c.after;
  mode = mode_under (forces_apart rules v) c.mode;
}

-- the binding with another handler and other guards, which keeps number, requester, place and mode
abbrev pub replaced : List Rule → Verdict → Command → Binding → Binding
replaced rules v c b = record b { handler = c.handler; own_guard = c.guard; imposed = imposed_guards rules v }

-- it is replaced where it is the target
abbrev pub replaced_at : List Rule → Verdict → Command → Binding → Binding
replaced_at rules v c b = if b.number == c.target then replaced rules v c b else b

-- the bindings after a command under that place
abbrev pub bindings_after : List Rule → Verdict → ℕ → Command → Op → List Binding → List Binding
bindings_after rules v place c op.Install bs = bs ++ installed rules v place c ∷ []
bindings_after rules v place c op.Remove bs = filter (λ b. not (b.number == c.target)) bs
bindings_after rules v place c op.Replace bs = map (replaced_at rules v c) bs
bindings_after rules v place c o bs = bs

-- the default after a command
abbrev pub default_after : Command → Op → ℕ → ℕ
default_after c op.Default default = c.handler
default_after c op.NoDefault default = 0
default_after c o default = default

-- the event after a command under that place
abbrev pub event_after : List (List Rule) → EventDef → ℕ → Command → EventState → EventState
event_after policies e place c s = record {
  bindings = bindings_after (rules_of policies e.authority) (answer_to policies e s.bindings c) place c c.op s.bindings;
  default = default_after c c.op s.default;
}

-- the command's event is changed, and no other
abbrev pub events_after : List (List Rule) → ℕ → Command → Option EventDef → Option EventState
    → List EventState → List EventState
events_after policies place c (Some e) (Some s) events = slice_set events c.event (event_after policies e place c s)
events_after policies place c _ _ events = events

-- the state after a command that is accepted: the place is one greater, and one thing else is changed
abbrev pub state_after : SetupData → Command → State → State
state_after d c s = record {
  place = s.place + 1;
  events = events_after d.policies (s.place + 1) c (slice_get d.events c.event) (slice_get s.events c.event) s.events;
}

-- the event's live bindings, or none where there is no event
abbrev pub bindings_if : Option EventState → List Binding
bindings_if (Some e) = e.bindings
bindings_if None = []

-- the bindings of that event, none where there is no such event
abbrev pub bindings_at : State → ℕ → List Binding
bindings_at s event = bindings_if (slice_get s.events event)

-- what an install needs beside: an order in which the bindings may run
abbrev pub IsOrderly : Op → List Binding → Type 0
IsOrderly op.Install bs = HasLawfulOrder bs
IsOrderly o bs = Unit {0}

-- an install may be refused by a cycle of the bindings that it would make, whichever of them it is
abbrev pub IsConflict : Op → List Binding → Refusal → Type 0
IsConflict op.Install bs (refusal.Conflict numbers) = IsCycle bs numbers
IsConflict o bs r = ⊥

-- the verdict and the next state of a command to which none of the refusals but a conflict applies
abbrev pub ChangesTo : SetupData → State → Command → Verdicted → State → Type 0
ChangesTo d s c verdicted.Accepted next =
    (next ≡ state_after d c s) × IsOrderly c.op (bindings_at (state_after d c s) c.event)
ChangesTo d s c (verdicted.Refused r) next = (next ≡ s) × IsConflict c.op (bindings_at (state_after d c s) c.event) r

-- the command has this verdict at the state, and leaves that one
abbrev pub IsStep : SetupData → State → Command → Verdicted → State → Type 0
IsStep d s c v next =
    MatchOption (refusal_of d s c) (ChangesTo d s c v next) (λ r. (v ≡ verdicted.Refused r) × (next ≡ s))

-- the command may be refused at the state by a conflict of this cycle
abbrev pub MayConflict : SetupData → State → Command → List ℕ → Type 0
MayConflict d s c cycle = IsStep d s c (verdicted.Refused (refusal.Conflict cycle)) s

-- the answer to a command at the state: the version that has the next state, or a refusal; want of memory comes only
-- where none of the refusals but a conflict applies
abbrev pub IsAnswer : SetupData → State → Command → Result VersionValue StepFault → Type 0
IsAnswer d s c (Ok next) = IsStep d s c verdicted.Accepted next.state
IsAnswer d s c (Err (fault.Refused r)) = IsStep d s c (verdicted.Refused r) s
IsAnswer d s c (Err fault.NoMemory) = refusal_of d s c ≡ None

-- where the command is refused, P holds
abbrev pub OnRefused : {A : Type 0} → Result A StepFault → Type 0 → Type 0
OnRefused (Err (fault.Refused r)) P = P
OnRefused answer P = ⊤
