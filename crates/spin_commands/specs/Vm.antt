-- The command `vm`: why it ends so, and what its status tells.
use Rattle.std.specs.Prelude.{◌≡◌, ◌⊎◌, ℕ, Bool, true, false, Option, Some, None, List, Ok, Err}
use Rattle.spin_outside.specs.Counts.{Rose}
use Rattle.spin_outside.specs.Files.{File, content, IsLacking}
use Rattle.spin_outside.specs.Seen.{ShelfSeen, SinkSeen}
use Rattle.spin_script.specs.Language.{IsScript}
use Rattle.spin_script.specs.States.{NativeData, ScriptData}
use Rattle.spin_vm.specs.declared.cause.TraceCause.{TraceCause}
use Rattle.spin_vm.specs.declared.end.VmEnd.{VmEnd}
use Rattle.spin_vm.specs.declared.end.VmEnd.TheVariants as vm
use Rattle.spin_vm.specs.declared.line.TraceLine.{TraceLine}
use Rattle.spin_vm.specs.Ends.{TraceEndsBy, TraceCountsBy}
use Rattle.spin_vm.specs.Scripts.{is_suited}
use Rattle.spin_vm.specs.Traces.{outcome, trace_cause_number}
use Rattle.spin_inputs.specs.declared.end.End.{End}
use Rattle.spin_inputs.specs.declared.end.End.TheVariants.{Whole, Unread, WriteFault, Absent, NoMemory, Trace, Unsuited}
use Rattle.spin_inputs.specs.declared.end.Input.TheVariants as input
use Rattle.spin_inputs.specs.Ends.{exit_status, stop_line, Tells}
use Rattle.spin_inputs.specs.Loading.{IsContent, IsLoaded, NoScriptBy, HoldsText, KnowsRefused, KnowsNoScript}
use Rattle.spin_inputs.specs.Outside.{Outside, OnlyStops, NoReadFailed}
use Rattle.spin_inputs.specs.Shelves.{ShelfStood, ShelfFailed, ShelfLacked}

-- ---- the trace

-- The text under the name is no trace: its first bad line, 0 where it is too large, and the cause there.
abbrev pub IsBadTrace : Option (List File) → List ℕ → ℕ → ℕ → Type 0
IsBadTrace files name line cause =
    (text : List ℕ) × IsContent files name text
    × (why : TraceCause) × (outcome text ≡ Err (line, why)) × (cause ≡ trace_cause_number why)

-- Why the text of a trace wasn't read.
abbrev pub NoTraceBy : ShelfSeen → ShelfSeen → List ℕ → End → Type 0
NoTraceBy before after name (Trace line cause) =
    ShelfStood before after × IsBadTrace before.files name line cause
NoTraceBy before after name (Unread input.Trace) = ShelfFailed before after
NoTraceBy before after name (Absent input.Trace) =
    ShelfLacked before after × IsLacking before.files name
NoTraceBy before after name NoMemory = ShelfStood before after
NoTraceBy before after name other = ⊥

-- ---- why

-- A script was read under the name, and it is suited; or it isn't.
abbrev pub LoadsSuited : NativeData → Option (List File) → List ℕ → Bool → Type 0
LoadsSuited natives files name suited =
    (script : ScriptData) × IsLoaded natives files name script × (is_suited script ≡ suited)

-- the end of a call whose trace ended so
abbrev pub vm_end : VmEnd → End
vm_end vm.Whole = Whole
vm_end (vm.Trace line cause) = Trace line cause
vm_end vm.WriteFault = WriteFault
vm_end vm.NoMemory = NoMemory

-- The script was read and is suited, and the text of the trace was read; the trace over the script ended so; and then
-- the line of that end was written. The endpoints are as before.
pub record RanTrace (natives : NativeData) (before after : Outside) (name trace : List ℕ)
    (ended : VmEnd) : Type 0 where
  pub stood : ShelfStood before.shelf after.shelf
  pub script : ScriptData
  pub loaded : IsLoaded natives before.shelf.files name script
  pub suited : is_suited script ≡ true
  pub text : List ℕ
  pub read : IsContent before.shelf.files trace text
  -- the sink when the trace ended
  pub sink : SinkSeen
  pub ended_so : TraceEndsBy script text before.sink sink ended
  pub counts : TraceCountsBy before.sink sink ended
  pub line : Tells sink after.sink (stop_line (vm_end ended))
  pub ends : after.ends ≡ before.ends

-- Why there is no trace for a script that is suited, or isn't: it isn't; or it is, and the trace wasn't read.
abbrev pub NoSuitedTraceBy : Bool → ShelfSeen → ShelfSeen → List ℕ → End → Type 0
NoSuitedTraceBy false before after name end = (end ≡ Unsuited) × ShelfStood before after
NoSuitedTraceBy true before after name end = NoTraceBy before after name end

-- Why no trace was run: the script wasn't read; or it was, and there is no trace for it.
abbrev pub NotTracedBy : NativeData → ShelfSeen → ShelfSeen → List ℕ → List ℕ → End → Type 0
NotTracedBy natives before after name trace end =
    NoScriptBy natives before after name end
    ⊎ ((suited : Bool) × LoadsSuited natives before.files name suited
    × NoSuitedTraceBy suited before after trace end)

-- Why a call of this script and trace ended so, and what was written: no trace was run, and only the line of the end
-- was written; or the trace ended so.
abbrev pub VmHasCause : NativeData → Outside → Outside → List ℕ → List ℕ → End → Type 0
VmHasCause natives before after name trace end =
    (NotTracedBy natives before.shelf after.shelf name trace end × OnlyStops before after end)
    ⊎ ((ended : VmEnd) × (end ≡ vm_end ended) × RanTrace natives before after name trace ended)

-- The status is the number of an end that has its cause.
abbrev pub IsVmStatus : NativeData → Outside → Outside → List ℕ → List ℕ → ℕ → Type 0
IsVmStatus natives before after name trace status =
    (end : End) × (status ≡ exit_status end) × VmHasCause natives before after name trace end

-- ---- what the status tells where the shelf tells its files

-- The text is a script that is suited, or one that isn't.
abbrev pub IsSuitedText : NativeData → List ℕ → Bool → Type 0
IsSuitedText natives text suited =
    (script : ScriptData) × IsScript natives text (Ok script) × (is_suited script ≡ suited)

-- A script that isn't suited is told to be so, unless a read failed or memory ran out.
abbrev pub KnowsUnsuited : NativeData → Outside → Outside → List ℕ → ℕ → Type 0
KnowsUnsuited natives before after name status =
    (held : List File) (text : List ℕ) → HoldsText before.shelf held name text
    → IsSuitedText natives text false → NoReadFailed before after
    → (status ≡ 12) ⊎ (status ≡ 7)

-- A trace that isn't there beside a suited script is told to be absent, unless a read failed or memory ran out.
abbrev pub KnowsNoTrace : NativeData → Outside → Outside → List ℕ → List ℕ → ℕ → Type 0
KnowsNoTrace natives before after name trace status =
    (held : List File) (text : List ℕ) → HoldsText before.shelf held name text
    → IsSuitedText natives text true → content held trace ≡ None → NoReadFailed before after
    → (status ≡ 6) ⊎ (status ≡ 7)

-- A text that is no trace beside a suited script is refused, unless a read failed or memory ran out.
abbrev pub KnowsTrace : NativeData → Outside → Outside → List ℕ → List ℕ → ℕ → Type 0
KnowsTrace natives before after name trace status =
    (held : List File) (text traced : List ℕ) (line : ℕ) (why : TraceCause)
    → HoldsText before.shelf held name text → IsSuitedText natives text true
    → content held trace ≡ Some traced → outcome traced ≡ Err (line, why)
    → NoReadFailed before after → (status ≡ 11) ⊎ (status ≡ 7)

-- A trace is run whole over a suited script, unless a read or a write failed or memory ran out.
abbrev pub IsTraceComplete : NativeData → Outside → Outside → List ℕ → List ℕ → ℕ → Type 0
IsTraceComplete natives before after name trace status =
    (held : List File) (text traced : List ℕ) (lines : List TraceLine)
    → HoldsText before.shelf held name text → IsSuitedText natives text true
    → content held trace ≡ Some traced → outcome traced ≡ Ok lines
    → NoReadFailed before after → (Rose before.sink.faults after.sink.faults → ⊥)
    → (status ≡ 0) ⊎ (status ≡ 7)

-- Which status this command always comes to.
pub record VmKnows (natives : NativeData) (before after : Outside) (name trace : List ℕ)
    (status : ℕ) : Type 0 where
  pub refused : KnowsRefused natives before after name status
  pub script_absent : KnowsNoScript before after name status
  pub unsuited : KnowsUnsuited natives before after name status
  pub trace_absent : KnowsNoTrace natives before after name trace status
  pub bad_trace : KnowsTrace natives before after name trace status
  pub complete : IsTraceComplete natives before after name trace status
