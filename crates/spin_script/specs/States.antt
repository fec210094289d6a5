-- The script so far.
use Rattle.std.specs.Prelude.{ℕ, ◌+◌, ◌==◌, max, Bool, true, false, if◌then◌else◌, List}
use Rattle.std.specs.Prelude.{[], ◌∷◌, ◌++◌, map, Option, Some, None, slice_get, slice_set}
use Rattle.std.specs.Option.{option_map_or}
use Rattle.spin_values.specs.declared.types.EventType.{EventType}
use Rattle.spin_code.specs.declared.merge.Merge.{Merge}
use Rattle.spin_policy.specs.declared.rule.Rule.{Rule}
use Rattle.spin_objects.specs.declared.natives.Natives.{Natives}
use Rattle.spin_objects.specs.Units.{HandlerUnit, GuardUnit, Named, native_handlers, native_guards}
use Rattle.spin_objects.specs.Units.{native_authorisers, index_of, handler_if, guard_if}
use Rattle.spin_table.specs.declared.event.EventDef.{EventDef}
use Rattle.spin_table.specs.declared.event.Authority.{Authority}
use Rattle.spin_table.specs.declared.event.Authority.TheVariants as authority
use Rattle.spin_table.specs.declared.setup.TheConstants.{MAX_LIVE}
use Rattle.spin_table.specs.Setups.{SetupData}
use Rattle.spin_grammar.specs.Tasks.{work_of}
use Rattle.spin_script.specs.declared.script.Segment.{Segment}
use Rattle.spin_script.specs.declared.read.TheConstants.{MAX_EARLY_LIVE}
use Rattle.spin_word.specs.declared.work.Work.{Work}
use Rattle.spin_word.specs.declared.work.Work.TheVariants as work
use Rattle.spin_grammar.specs.Lines as line

-- ---- the natives that a script may name

-- the natives of each kind in the order of adding: their names, each with what it was handed in with
pub record NativeData : Type 0 where
  pub handlers : List (Named HandlerUnit)
  pub guards : List (Named GuardUnit)
  pub authorisers : List (Named (List Rule))

-- the natives as they were handed in, without their objects
abbrev pub natives_seen : {A C E : Type 0} {B : A → Type 0} {D : C → Type 0} {F : E → Type 0}
    → Natives A C E B D F → NativeData
natives_seen n = record { handlers = native_handlers n; guards = native_guards n; authorisers = native_authorisers n }

-- the index of the native of that name
abbrev pub native_at : {X : Type 0} → List ℕ → List (Named X) → Option ℕ
native_at name natives = index_of name (map (λ n. n.name) natives)

-- what the native authorisers follow
abbrev pub policies : NativeData → List (List Rule)
policies n = map (λ a. a.unit) n.authorisers

-- ---- the state

-- the script so far: what the lines up to here say, and what decides which line may follow
pub record ScriptState : Type 0 where
  -- 0 before the first line that isn't skipped
  pub version : ℕ
  -- the section of the last line
  pub section : ℕ
  -- the last line was a barrier, or retired an endpoint
  pub begins : Bool
  pub modules : ℕ
  pub events : List EventDef
  pub endpoints : List (List ℕ)
  pub handlers : List HandlerUnit
  pub guards : List GuardUnit
  -- the segments that ended, and the one that goes on
  pub ended : List Segment
  pub segment : Segment
  -- how many command lines there are, and how many deeds, commands among them
  pub commands : ℕ
  pub deeds : ℕ
  -- 1 more than the greatest lane that is named
  pub lanes : ℕ

-- a segment that retires no endpoint and has no lane lines
abbrev pub empty_segment : Segment
empty_segment = record { retires = []; lines = [] }

-- the script before all lines: it has one module and one lane, and nothing is declared
abbrev pub start : ScriptState
start = record {
  version = 0;
  section = 0;
  begins = false;
  modules = 1;
  events = [];
  endpoints = [];
  handlers = [];
  guards = [];
  ended = [];
  segment = empty_segment;
  commands = 0;
  deeds = 0;
  lanes = 1;
}

-- ---- what a line adds

-- an event without rules and without a default
abbrev pub new_event : (owner : ℕ) → EventType → Merge → EventDef
new_event owner sig m =
    record { sig = sig; owner = owner; merge = m; first_default = 0; authority = authority.Rules [] }

-- the rules that were given, of which a native authoriser has none
abbrev pub given_rules : Authority → List Rule
given_rules (authority.Rules rules) = rules
given_rules (authority.Native native) = []

-- a native authoriser answers for the event's owner
abbrev pub is_native : Authority → Bool
is_native (authority.Rules rules) = false
is_native (authority.Native native) = true

-- the event of that number changed so, where it is there
abbrev pub with_event : (EventDef → EventDef) → ℕ → List EventDef → List EventDef
with_event change event events = option_map_or (λ e. slice_set events event (change e)) (slice_get events event) events

-- the event with one rule more, behind those that were given
abbrev pub with_rule : Rule → EventDef → EventDef
with_rule r e = record e { authority = authority.Rules (given_rules e.authority ++ r ∷ []) }

-- the event with the native of that index as its authoriser, which leaves it no rules
abbrev pub with_authoriser : ℕ → EventDef → EventDef
with_authoriser native e = record e { authority = authority.Native native }

-- the event with that handler as its first default
abbrev pub with_default : ℕ → EventDef → EventDef
with_default handler e = record e { first_default = handler }

-- how many command lines a lane line counts for: a command 1, and every other line none
abbrev pub command_count : Work → ℕ
command_count (work.Command c) = 1
command_count w = 0

-- how many deeds a lane line counts for: a packet line the records that it asks for, and every other line 1
abbrev pub deed_count : Work → ℕ
deed_count (work.Packet e n) = n
deed_count w = 1

-- a lane line is added to the segment that goes on
abbrev pub with_work : ScriptState → ℕ → ℕ → Work → ScriptState
with_work s number lane w = record s {
  section = 8;
  begins = false;
  segment = record {
    retires = s.segment.retires;
    lines = s.segment.lines ++ record { number = number; lane = lane; work = w } ∷ [];
  };
  commands = s.commands + command_count w;
  deeds = s.deeds + deed_count w;
  lanes = max s.lanes (lane + 1);
}

-- the script with the native of that index as the event's authoriser; the same script where there is none
abbrev pub with_authority : ScriptState → ℕ → Option ℕ → ScriptState
with_authority s event None = s
with_authority s event (Some native) =
    record s { section = 6; events = with_event (with_authoriser native) event s.events }

-- the script with the native of that index as one handler more; the same script where there is none
abbrev pub with_handler : NativeData → ScriptState → Option ℕ → ScriptState
with_handler n s None = s
with_handler n s (Some native) =
    record s { section = 4; handlers = s.handlers ++ handler_if (slice_get n.handlers native) ∷ [] }

-- the script with the native of that index as one guard more; the same script where there is none
abbrev pub with_guard : NativeData → ScriptState → Option ℕ → ScriptState
with_guard n s None = s
with_guard n s (Some native) = record s { section = 5; guards = s.guards ++ guard_if (slice_get n.guards native) ∷ [] }

-- the script up to this line, which has that number in the text
abbrev pub after : NativeData → ScriptState → ℕ → line.LineMeaning → ScriptState
after n s number (line.Modules count) = record s { section = 1; modules = count }
after n s number (line.Event e owner sig m) = record s { section = 2; events = s.events ++ new_event owner sig m ∷ [] }
after n s number (line.Endpoint p name) = record s { section = 3; endpoints = s.endpoints ++ name ∷ [] }
after n s number (line.Handler h sig steps) =
    record s { section = 4; handlers = s.handlers ++ record { sig = sig; act = record { steps = steps } } ∷ [] }
after n s number (line.NativeHandler h name) = with_handler n s (native_at name n.handlers)
after n s number (line.Guard g sig t) =
    record s { section = 5; guards = s.guards ++ record { sig = sig; test = t } ∷ [] }
after n s number (line.NativeGuard g name) = with_guard n s (native_at name n.guards)
after n s number (line.Rules e r) = record s { section = 6; events = with_event (with_rule r) e s.events }
after n s number (line.Authoriser e name) = with_authority s e (native_at name n.authorisers)
after n s number (line.Default e h) = record s { section = 7; events = with_event (with_default h) e s.events }
after n s number (line.Lane l t) = with_work s number l (work_of l t)
after n s number line.Barrier =
    record s { section = 8; begins = true; ended = s.ended ++ s.segment ∷ []; segment = empty_segment }
after n s number (line.Retire p) =
    record s {
      section = 8;
      begins = true;
      segment = record { retires = s.segment.retires ++ p ∷ []; lines = s.segment.lines };
    }

-- ---- what a script comes to

-- a script: its setup, its version, the names of its endpoints, how many lanes it has, and its segments
pub record ScriptData : Type 0 where
  pub setup : SetupData
  pub version : ℕ
  pub endpoints : List (List ℕ)
  pub lanes : ℕ
  pub segments : List Segment

-- the greatest number of live bindings of an event
abbrev pub most_live : ℕ → ℕ
most_live version = if version == 3 then MAX_LIVE else MAX_EARLY_LIVE

-- what the script declares; the policies are those of all native authorisers that were handed in
abbrev pub setup_in : NativeData → ScriptState → SetupData
setup_in n s = record {
  modules = s.modules;
  live = most_live s.version;
  events = s.events;
  handlers = s.handlers;
  guards = s.guards;
  policies = policies n;
}

-- the script that ends here: the segment that goes on is its last
abbrev pub script_in : NativeData → ScriptState → ScriptData
script_in n s = record {
  setup = setup_in n s;
  version = s.version;
  endpoints = s.endpoints;
  lanes = s.lanes;
  segments = s.ended ++ s.segment ∷ [];
}
