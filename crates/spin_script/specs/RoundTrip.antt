-- Scripts that are written are read again.
use Rattle.std.specs.Prelude.{◌≡◌, ◌≤◌, ℕ, ◌+◌, Bool, true, false, ◌&&◌, nat_le}
use Rattle.std.specs.Prelude.{List, [], ◌∷◌, ◌++◌, length, map, None, Some, Ok}
use Rattle.spin_values.specs.declared.types.EventType.{EventType}
use Rattle.spin_code.specs.declared.test.Test.{Test}
use Rattle.spin_objects.specs.declared.unit.Body.{Body}
use Rattle.spin_objects.specs.declared.unit.Body.TheVariants as body
use Rattle.spin_objects.specs.declared.unit.Check.{Check}
use Rattle.spin_objects.specs.declared.unit.Check.TheVariants as check
use Rattle.spin_objects.specs.Units.{unit_of_body, unit_of_check}
use Rattle.spin_table.specs.declared.event.Authority.TheVariants as authority
use Rattle.spin_grammar.specs.Forms.{Task}
use Rattle.spin_grammar.specs.Lines.{LineMeaning, Guard, NativeHandler, NativeGuard}
use Rattle.spin_grammar.specs.Lines.{Authoriser, Lane, line_kind, Spells}
use Rattle.spin_script.specs.declared.script.Line as script
use Rattle.spin_script.specs.declared.script.Segment.{Segment}
use Rattle.spin_script.specs.Sections.{is_out_of_order}
use Rattle.spin_grammar.specs.Tasks.{work_of}
use Rattle.spin_script.specs.States.{ScriptState, NativeData, ScriptData, native_at, start, after, script_in}
use Rattle.spin_values.specs.First.{first_of}
use Rattle.spin_script.specs.Checks.{checks}
use Rattle.spin_script.specs.Language.{Outcome, outcome_at_end, most_bytes, IsScript}
use Rattle.spin_script.specs.Canonical.{handler_line, guard_line, authority_lines, task_of}
use Rattle.spin_script.specs.Canonical.{version_text, text_of_lines, canonical_of}

-- some words say this, in a script of this version
abbrev pub CanBeSaid : ℕ → LineMeaning → Type 0
CanBeSaid version l = (ws : List (List ℕ)) × Spells version (line_kind l) ws l

-- the line can stand behind the script so far
pub record Fits (n : NativeData) (s : ScriptState) (l : LineMeaning) : Type 0 where
  pub said : CanBeSaid s.version l
  pub order : is_out_of_order (line_kind l) s.section s.begins ≡ false
  pub good : first_of (checks n s l) ≡ None

-- The lines, of which the first has that number, lead from s to t.
abbrev pub LeadTo : NativeData → ScriptState → ℕ → List LineMeaning → ScriptState → Type 0
LeadTo n s number [] t = t ≡ s
LeadTo n s number (l ∷ ls) t = Fits n s l × LeadTo n (after n s number l) (number + 1) ls t

abbrev pub is_version : ℕ → Bool
is_version version = nat_le 1 version && nat_le version 3

-- What is written of lines that can stand behind one another is read as just these lines.
abbrev pub WrittenLinesAreRead : Type 0
WrittenLinesAreRead =
    (n : NativeData) (version : ℕ) (ls : List LineMeaning) (t : ScriptState) (o : Outcome)
    → is_version version ≡ true
    → LeadTo n (record start { version = version }) 2 ls t
    → o ≡ outcome_at_end n t
    → length (version_text version ++ text_of_lines ls) ≤ most_bytes
    → IsScript n (version_text version ++ text_of_lines ls) o

-- What is written of the deed of a lane line is just that deed.
abbrev pub DeedsAreBack : Type 0
DeedsAreBack = (version lane : ℕ) (t : Task) → CanBeSaid version (Lane lane t)
    → task_of version (work_of lane t) ≡ t

-- What is written of a guard is what its line said; and each native is written by the name that it was found by.
pub record DeclarationsAreBack : Type 0 where
  pub guards : (version : ℕ) (n : NativeData) (g : ℕ) (sig : EventType) (t : Test)
      → CanBeSaid version (Guard g sig t) → guard_line n g (check.Coded sig t) ≡ Guard g sig t
  pub native_handlers : (n : NativeData) (h : ℕ) (name : List ℕ) (k : ℕ)
      → native_at name n.handlers ≡ Some k → handler_line n h (body.Native k) ≡ NativeHandler h name
  pub native_guards : (n : NativeData) (g : ℕ) (name : List ℕ) (k : ℕ)
      → native_at name n.guards ≡ Some k → guard_line n g (check.Native k) ≡ NativeGuard g name
  pub authorisers : (n : NativeData) (e : ℕ) (name : List ℕ) (k : ℕ)
      → native_at name n.authorisers ≡ Some k
      → authority_lines n e (authority.Native k) ≡ Authoriser e name ∷ []

-- ---- whole scripts

abbrev pub unnumbered_line : script.Line → script.Line
unnumbered_line l = record { number = 0; lane = l.lane; work = l.work }

abbrev pub unnumbered_segment : Segment → Segment
unnumbered_segment s = record { retires = s.retires; lines = map unnumbered_line s.lines }

-- the script without the numbers of its lines
abbrev pub unnumbered : ScriptData → ScriptData
unnumbered d = record d { segments = map unnumbered_segment d.segments }

-- The text is read as that script, but for the numbers of its lines, unless it is too large.
abbrev pub ComesBack : NativeData → (text : List ℕ) → ScriptData → Type 0
ComesBack n text d = length text ≤ most_bytes
    → (e : ScriptData) × IsScript n text (Ok e) × (unnumbered e ≡ unnumbered d)

-- Each script that is read can be written: lines that can stand behind one another lead to it, and what is written of
-- them is read as it, unless that is too large; both but for the numbers of its lines.
abbrev pub ScriptsCanBeWritten : Type 0
ScriptsCanBeWritten =
    (n : NativeData) (text : List ℕ) (d : ScriptData) → IsScript n text (Ok d)
    → (ls : List LineMeaning) × (t : ScriptState)
    × LeadTo n (record start { version = d.version }) 2 ls t
    × (unnumbered (script_in n t) ≡ unnumbered d)
    × ComesBack n (version_text d.version ++ text_of_lines ls) d

-- The handlers and guards of each script that is read are of such bodies and checks that its canonical text is read as
-- that script, but for the numbers of its lines.
abbrev pub ScriptsComeBack : Type 0
ScriptsComeBack =
    (n : NativeData) (text : List ℕ) (d : ScriptData) → IsScript n text (Ok d)
    → (bodies : List Body) × (checks : List Check)
    × (map (unit_of_body n.handlers) bodies ≡ d.setup.handlers)
    × (map (unit_of_check n.guards) checks ≡ d.setup.guards)
    × ComesBack n (canonical_of n bodies checks d) d
