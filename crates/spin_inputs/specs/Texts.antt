-- What the text of a script says, whether or not a line of it is refused: which lines are, and why, is `IsScript`.
use Rattle.std.specs.Prelude.{◌≡◌, ◌≤◌, ◌==◌, ◌+◌, ℕ, max, Bool, true, false, not, if◌then◌else◌, List, [], ◌∷◌, ◌++◌, map}
use Rattle.std.specs.Prelude.{Option, Some, None, length, drop, slice_index, codes, bytes_eq}
use Rattle.std.specs.List.{AllZip, filter, filter_map, find, fold, enumerate_from, position}
use Rattle.std.specs.Option.{option_map, option_map_or}
use Rattle.std.specs.Char.{to_ascii_lowercase}
use Rattle.std.specs.Str.Lines.{lines}
use Rattle.spin_values.specs.declared.types.EventType.{EventType}
use Rattle.spin_values.specs.declared.types.TheConstants.{MAX_PARAMS}
use Rattle.spin_objects.specs.Units.{HandlerUnit, GuardUnit, Named}
use Rattle.spin_table.specs.declared.event.Authority.TheVariants as authority
use Rattle.spin_table.specs.declared.event.EventDef.{EventDef}
use Rattle.spin_table.specs.declared.setup.TheConstants.{MAX_LIVE}
use Rattle.spin_grammar.specs.Canonical.{signature_word}
use Rattle.spin_grammar.specs.Grammar.{Atom, Fixed, Numeral, Argument, Called, Typed, Blob}
use Rattle.spin_grammar.specs.Lines as line
use Rattle.spin_grammar.specs.Lines.{LineMeaning, line_form}
use Rattle.spin_grammar.specs.Spelling.{number, hex_bytes}
use Rattle.spin_grammar.specs.Tasks.{work_of}
use Rattle.spin_grammar.specs.Words.{words}
use Rattle.spin_script.specs.declared.read.TheConstants.{MAX_EARLY_LIVE}
use Rattle.spin_script.specs.declared.script.Segment.{Segment}
use Rattle.spin_script.specs.States.{NativeData, ScriptData, with_event, with_rule}

-- ---- words

-- The word spells this signature of at most 8 parameters. A guard's gives no result, and the case of its letters doesn't
-- matter.
abbrev pub IsSignature : (of_guard : Bool) → EventType → List ℕ → Type 0
IsSignature false sig w = (length sig.params ≤ MAX_PARAMS) × (w ≡ signature_word sig)
IsSignature true sig w =
    (length sig.params ≤ MAX_PARAMS) × (sig.gives ≡ false) × (map to_ascii_lowercase w ≡ signature_word sig)

-- The word says this, where the signature is that of a guard or isn't.
abbrev pub SaysAtom : (of_guard : Bool) → Atom → List ℕ → Type 0
SaysAtom of_guard (Fixed word) w = w ≡ word
SaysAtom of_guard (Numeral n) w = number w ≡ Some n
SaysAtom of_guard (Argument k) w = w ≡ 97 ∷ (48 + k) ∷ []
SaysAtom of_guard (Called name) w = w ≡ name
SaysAtom of_guard (Typed sig) w = IsSignature of_guard sig w
SaysAtom of_guard (Blob bytes) w = (slice_index w 0 ≡ 120) × (hex_bytes (drop 1 w) ≡ Some bytes)

-- The words say this line: each what stands at its place, and there are no others.
abbrev pub SayLine : LineMeaning → List (List ℕ) → Type 0
SayLine l [] = ⊥
SayLine l (w ∷ ws) = AllZip (SaysAtom (bytes_eq w (codes "guard"))) (line_form l) (w ∷ ws)

-- ---- lines

-- there are no words, or the first begins with a number sign
abbrev pub is_skipped : List (List ℕ) → Bool
is_skipped [] = true
is_skipped (w ∷ ws) = slice_index w 0 == 35

-- the lines that aren't skipped, each with its number and its words
abbrev pub saying_lines : ℕ → List (List ℕ) → List (ℕ × List (List ℕ))
saying_lines first texts = filter (λ told. not (is_skipped told.1)) (enumerate_from first (map words texts))

-- ---- what lines make

-- the events with what a line says of them
abbrev pub events_with : NativeData → List EventDef → LineMeaning → List EventDef
events_with n events (line.Event e owner sig m) =
    events ++ record { sig = sig; owner = owner; merge = m; first_default = 0; authority = authority.Rules [] } ∷ []
events_with n events (line.Rules e r) = with_event (with_rule r) e events
events_with n events (line.Authoriser e name) =
    option_map_or (λ at. with_event (λ event. record event { authority = authority.Native at }) e events)
    (position (λ native. bytes_eq native.name name) n.authorisers) events
events_with n events (line.Default e h) = with_event (λ event. record event { first_default = h }) e events
events_with n events l = events

-- what the first native of that name was handed in with
abbrev pub native_of : {X : Type 0} → List ℕ → List (Named X) → Option X
native_of name natives = option_map (λ native. native.unit) (find (λ native. bytes_eq native.name name) natives)

-- the handler that a line declares
abbrev pub handler_said : NativeData → LineMeaning → Option HandlerUnit
handler_said n (line.Handler h sig steps) = Some (record { sig = sig; act = record { steps = steps } })
handler_said n (line.NativeHandler h name) = native_of name n.handlers
handler_said n l = None

-- the guard that a line declares
abbrev pub guard_said : NativeData → LineMeaning → Option GuardUnit
guard_said n (line.Guard g sig t) = Some (record { sig = sig; test = t })
guard_said n (line.NativeGuard g name) = native_of name n.guards
guard_said n l = None

-- the name of the endpoint that a line declares
abbrev pub endpoint_said : LineMeaning → Option (List ℕ)
endpoint_said (line.Endpoint p name) = Some name
endpoint_said l = None

-- how many modules there are after a line
abbrev pub modules_with : ℕ → LineMeaning → ℕ
modules_with modules (line.Modules count) = count
modules_with modules l = modules

-- how many lanes there are after a line: 1 more than the greatest that is named
abbrev pub lanes_with : ℕ → LineMeaning → ℕ
lanes_with lanes (line.Lane lane t) = max lanes (lane + 1)
lanes_with lanes l = lanes

-- the segments that lines make behind the one that goes on
abbrev pub segments_with : Segment → List (ℕ × LineMeaning) → List Segment
segments_with s [] = s ∷ []
segments_with s ((at, line.Barrier) ∷ more) = s ∷ segments_with (record { retires = []; lines = [] }) more
segments_with s ((at, line.Retire p) ∷ more) = segments_with (record s { retires = s.retires ++ p ∷ [] }) more
segments_with s ((at, line.Lane l t) ∷ more) =
    segments_with (record s { lines = s.lines ++ record { number = at; lane = l; work = work_of l t } ∷ [] }) more
segments_with s (said ∷ more) = segments_with s more

-- the script that lines make, where it is of that version
abbrev pub script_with : NativeData → (version : ℕ) → List (ℕ × LineMeaning) → ScriptData
script_with n version said =
    let meanings = map (λ numbered. numbered.1) said in
    record {
      setup = record {
        modules = fold modules_with 1 meanings;
        live = if version == 3 then MAX_LIVE else MAX_EARLY_LIVE;
        events = fold (events_with n) [] meanings;
        handlers = filter_map (handler_said n) meanings;
        guards = filter_map (guard_said n) meanings;
        policies = map (λ a. a.unit) n.authorisers;
      };
      version = version;
      endpoints = filter_map endpoint_said meanings;
      lanes = fold lanes_with 1 meanings;
      segments = segments_with (record { retires = []; lines = [] }) said;
    }

-- ---- the text

-- The text says this script, where these natives may be named: the first of its lines that aren't skipped names the
-- version, and the others make the script.
pub record SaysScript (n : NativeData) (text : List ℕ) (script : ScriptData) : Type 0 where
  pub version : ℕ
  pub said : List (ℕ × LineMeaning)
  pub first : ℕ × List (List ℕ)
  pub others : List (ℕ × List (List ℕ))
  pub told : saying_lines 1 (lines text) ≡ first ∷ others
  pub begins : AllZip (SaysAtom false) (Fixed (codes "spin") ∷ Numeral version ∷ []) first.1
  pub says : AllZip (λ said told. (said.0 ≡ told.0) × SayLine said.1 told.1) said others
  pub makes : script ≡ script_with n version said
