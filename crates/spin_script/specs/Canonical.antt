-- The canonical text of a script.
use Rattle.std.specs.Prelude.{ℕ, Bool, false, ◌&&◌, ◌==◌, if◌then◌else◌, List, []}
use Rattle.std.specs.Prelude.{◌∷◌, ◌++◌, map, decimal, codes, slice_get, slice_index}
use Rattle.std.specs.List.{flat_map, enumerate_from}
use Rattle.std.specs.Option.{option_map_or}
use Rattle.spin_values.specs.declared.types.Param.{Param}
use Rattle.spin_values.specs.declared.types.EventType.{EventType}
use Rattle.spin_word.specs.declared.command.Op.{Op}
use Rattle.spin_word.specs.declared.command.Op.TheVariants as op
use Rattle.spin_word.specs.declared.command.Place.{Place}
use Rattle.spin_word.specs.declared.command.Command.{Command}
use Rattle.spin_word.specs.Commands.{no_number}
use Rattle.spin_objects.specs.declared.unit.Body.{Body}
use Rattle.spin_objects.specs.declared.unit.Body.TheVariants as body
use Rattle.spin_objects.specs.declared.unit.Check.{Check}
use Rattle.spin_objects.specs.declared.unit.Check.TheVariants as check
use Rattle.spin_objects.specs.Units.{Named}
use Rattle.spin_table.specs.declared.event.EventDef.{EventDef}
use Rattle.spin_table.specs.declared.event.Authority.{Authority}
use Rattle.spin_table.specs.declared.event.Authority.TheVariants as authority
use Rattle.spin_word.specs.declared.work.Deed.{Deed}
use Rattle.spin_word.specs.declared.work.Deed.TheVariants as deed
use Rattle.spin_grammar.specs.declared.kind.Kind.{Kind}
use Rattle.spin_grammar.specs.declared.kind.Kind.TheVariants as kind
use Rattle.spin_grammar.specs.Grammar.{Atom}
use Rattle.spin_grammar.specs.Forms as forms
use Rattle.spin_grammar.specs.Forms.{Task, Spot}
use Rattle.spin_text.specs.Words.{Word, spaced, line_of, ended}
use Rattle.spin_grammar.specs.Canonical.{spell}
use Rattle.spin_grammar.specs.Lines as line
use Rattle.spin_grammar.specs.Lines.{form, line_kind}
use Rattle.spin_script.specs.declared.script.Line.{Line}
use Rattle.spin_script.specs.declared.script.Segment.{Segment}
use Rattle.spin_word.specs.declared.work.Work.{Work}
use Rattle.spin_word.specs.declared.work.Work.TheVariants as work
use Rattle.spin_script.specs.declared.script.Script.{Script}
use Rattle.spin_script.specs.States.{NativeData, ScriptData, natives_seen}
use Rattle.spin_script.specs.Scripts.{script_seen}

-- ---- lines as texts

-- the first word of such a line
abbrev pub first_word : Kind → Word
first_word kind.Modules = codes "modules"
first_word kind.Event = codes "event"
first_word kind.Endpoint = codes "endpoint"
first_word kind.Handler = codes "handler"
first_word kind.Guard = codes "guard"
first_word kind.Rule = codes "rule"
first_word kind.Authoriser = codes "authoriser"
first_word kind.Default = codes "default"
first_word kind.Lane = codes "lane"
first_word kind.Barrier = codes "barrier"
first_word kind.Retire = codes "retire"

-- canonical words, each with a space before it
abbrev pub spoken : List Atom → List ℕ
spoken atoms = spaced (map spell atoms)

-- the canonical words of a line
abbrev pub words_of : line.LineMeaning → List Word
words_of l = first_word (line_kind l) ∷ map spell (form l)

-- a line, ended by a line feed
abbrev pub line_text : line.LineMeaning → List ℕ
line_text l = ended (line_of (words_of l))

-- lines as text, one after another, each ended by a line feed
abbrev pub text_of_lines : List line.LineMeaning → List ℕ
text_of_lines lines = flat_map line_text lines

-- the first line
abbrev pub version_text : ℕ → List ℕ
version_text version = ended (line_of (codes "spin" ∷ decimal version ∷ []))

-- ---- declarations

-- the parameters, whose marks of var count or don't
abbrev pub marked : Bool → List Param → List Param
marked marks params = map (λ (p : Param). record { kind = p.kind; var = marks && p.var }) params

-- a guard's signature: all parameters are by value, and there is no result
abbrev pub by_value : EventType → EventType
by_value sig = record { params = marked false sig.params; gives = false }

-- the name of the native of that index
abbrev pub name_at : {X : Type 0} → List (Named X) → ℕ → List ℕ
name_at {X} natives native = option_map_or (λ (n : Named X). n.name) (slice_get natives native) []

abbrev pub event_line : ℕ × EventDef → line.LineMeaning
event_line p = line.Event p.0 p.1.owner p.1.sig p.1.merge

abbrev pub endpoint_line : ℕ × List ℕ → line.LineMeaning
endpoint_line p = line.Endpoint p.0 p.1

abbrev pub handler_line : NativeData → ℕ → Body → line.LineMeaning
handler_line n number (body.Coded sig act) = line.Handler number sig act.steps
handler_line n number (body.Native native) = line.NativeHandler number (name_at n.handlers native)

abbrev pub guard_line : NativeData → ℕ → Check → line.LineMeaning
guard_line n number (check.Coded sig test) = line.Guard number (by_value sig) test
guard_line n number (check.Native native) = line.NativeGuard number (name_at n.guards native)

-- who answers for the owner of that event
abbrev pub authority_lines : NativeData → ℕ → Authority → List line.LineMeaning
authority_lines n event (authority.Rules rules) = map (line.Rules event) rules
authority_lines n event (authority.Native native) =
    line.Authoriser event (name_at n.authorisers native) ∷ []

abbrev pub default_lines : (event handler : ℕ) → List line.LineMeaning
default_lines event handler = if handler == 0 then [] else line.Default event handler ∷ []

-- ---- lanes and segments

-- the bindings that are named, behind which there is none
abbrev pub named : List ℕ → List ℕ
named [] = []
named (n ∷ ns) = if n == no_number then [] else n ∷ named ns

-- versions 1 and 2 name one other binding at most
abbrev pub narrow_spot : Place → (before after : ℕ) → Spot
narrow_spot p before after =
    if before == no_number then (if after == no_number then forms.At p else forms.After after)
    else forms.Before before

abbrev pub spot_of : (version : ℕ) → Command → Spot
spot_of version c =
    if version == 3 then forms.Among c.place (named c.before) (named c.after)
    else narrow_spot c.place (slice_index c.before 0) (slice_index c.after 0)

abbrev pub command_task : (version : ℕ) → Op → Command → Task
command_task version op.Install c =
    forms.Install c.event c.requester c.handler c.guard (spot_of version c) c.mode
command_task version op.Remove c = forms.Remove c.event c.requester c.target
command_task version op.Replace c = forms.Replace c.event c.requester c.target c.handler c.guard
command_task version op.Default c = forms.Default c.event c.requester c.handler
command_task version op.NoDefault c = forms.NoDefault c.event c.requester

abbrev pub deed_task : Deed → Task
deed_task (deed.Raise event args) = forms.Raise event args
deed_task (deed.Later event args) = forms.Later event args

-- what a lane is told to do, in a script of this version
abbrev pub task_of : (version : ℕ) → Work → Task
task_of version (work.Command c) = command_task version c.op c
task_of version (work.Deed d) = deed_task d
task_of version (work.Packet event count) = forms.Packet event count

abbrev pub lane_line : (version : ℕ) → Line → line.LineMeaning
lane_line version l = line.Lane l.lane (task_of version l.work)

abbrev pub segment_lines : (version : ℕ) → Segment → List line.LineMeaning
segment_lines version s = map line.Retire s.retires ++ map (lane_line version) s.lines

-- a barrier stands between segments
abbrev pub segments_lines : (version : ℕ) → List Segment → List line.LineMeaning
segments_lines version [] = []
segments_lines version (s ∷ more) =
    segment_lines version s ++ flat_map (λ t. line.Barrier ∷ segment_lines version t) more

-- ---- scripts

-- The lines behind the first, where the handlers and guards are these. Each list of declarations is numbered.
abbrev pub lines_of : NativeData → List Body → List Check → ScriptData → List line.LineMeaning
lines_of n bodies checks d =
    line.Modules d.setup.modules
    ∷ (map event_line (enumerate_from 0 d.setup.events)
    ++ map endpoint_line (enumerate_from 0 d.endpoints)
    ++ map (λ (p : ℕ × Body). handler_line n p.0 p.1) (enumerate_from 1 bodies)
    ++ map (λ (p : ℕ × Check). guard_line n p.0 p.1) (enumerate_from 1 checks)
    ++ flat_map (λ (p : ℕ × EventDef). authority_lines n p.0 p.1.authority)
    (enumerate_from 0 d.setup.events)
    ++ flat_map (λ (p : ℕ × EventDef). default_lines p.0 p.1.first_default)
    (enumerate_from 0 d.setup.events)
    ++ segments_lines d.version d.segments)

abbrev pub canonical_of : NativeData → List Body → List Check → ScriptData → List ℕ
canonical_of n bodies checks d = version_text d.version ++ text_of_lines (lines_of n bodies checks d)

abbrev pub canonical : {A C E : Type 0} {B : A → Type 0} {D : C → Type 0} {F : E → Type 0}
    → Script A C E B D F → List ℕ
canonical s =
    canonical_of (natives_seen s.setup.catalogue.natives) s.setup.catalogue.bodies
    s.setup.catalogue.checks (script_seen s)
