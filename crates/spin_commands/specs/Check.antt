-- The command `check`: why it ends so, and what its status tells.
use Rattle.std.specs.Prelude.{◌≡◌, ◌≤◌, ◌<◌, ◌⊎◌, ℕ, Bool, Decides, if◌then◌else◌}
use Rattle.std.specs.Prelude.{Option, Some, None, List, Ok, length, codes}
use Rattle.spin_outside.specs.Counts.{Rose}
use Rattle.spin_outside.specs.Files.{File, content, IsLacking}
use Rattle.spin_outside.specs.Seen.{ShelfSeen, SinkSeen}
use Rattle.spin_text.specs.Words.{ended}
use Rattle.spin_endpoint.specs.Named.{NamedEnd}
use Rattle.spin_script.specs.Language.{IsScript}
use Rattle.spin_script.specs.States.{NativeData, ScriptData}
use Rattle.spin_report.specs.Runs.{CaptureSeen}
use Rattle.spin_check.specs.RunTexts.{IsRunText}
use Rattle.spin_commands.specs.declared.check.TheConstants.{REPORT_LIMIT}
use Rattle.spin_inputs.specs.declared.end.End.{End}
use Rattle.spin_inputs.specs.declared.end.End.TheVariants.{Whole, Unread, WriteFault, Absent}
use Rattle.spin_inputs.specs.declared.end.End.TheVariants.{NoMemory, NoHistory, LongReport}
use Rattle.spin_inputs.specs.declared.end.Input.TheVariants.{Report}
use Rattle.spin_inputs.specs.Captures.{IsCaptured, NotBothBy, KnowsNoCapture, KnowsBadCapture}
use Rattle.spin_inputs.specs.Ends.{exit_status, Tells}
use Rattle.spin_inputs.specs.Loading.{IsContent, IsLoaded, IsOver, HoldsText, IsScriptText, KnowsRefused, KnowsNoScript}
use Rattle.spin_inputs.specs.Outside.{Outside, OnlyStops, NoReadFailed}
use Rattle.spin_inputs.specs.Shelves.{ShelfStood, ShelfFailed, ShelfLacked}

-- ---- the report

-- the most bytes that a report may have
abbrev pub max_report : ℕ
max_report = REPORT_LIMIT

-- Why the report wasn't read.
abbrev pub NoReportBy : ShelfSeen → ShelfSeen → List ℕ → End → Type 0
NoReportBy before after name LongReport =
    ShelfStood before after × IsOver max_report before.files name
NoReportBy before after name (Unread Report) = ShelfFailed before after
NoReportBy before after name (Absent Report) =
    ShelfLacked before after × IsLacking before.files name
NoReportBy before after name NoMemory = ShelfStood before after
NoReportBy before after name other = ⊥

-- ---- the answer

-- the line of the answer, `yes` or `no`, ended by a line feed
abbrev pub answer : Bool → List ℕ
answer whether = ended (if whether then codes "yes" else codes "no")

-- how a call ends whose answer was written
abbrev pub answer_end : Bool → End
answer_end whether = if whether then Whole else NoHistory

-- The answer was written, or the sink failed, and a front of it was.
abbrev pub TellsAnswer : SinkSeen → SinkSeen → Bool → End → Type 0
TellsAnswer before after whether end =
    Tells before after (answer whether)
    × (((end ≡ answer_end whether) × (after.faults ≡ before.faults))
    ⊎ ((end ≡ WriteFault) × Rose before.faults after.faults))

-- ---- why

-- The script was read, and the whole capture, if one is named.
pub record ReadBoth (natives : NativeData) (files : Option (List File)) (name : List ℕ)
    (packets : Option (List ℕ)) : Type 0 where
  pub script : ScriptData
  pub loaded : IsLoaded natives files name script
  pub capture : Option CaptureSeen
  pub captured : IsCaptured files packets capture

-- Script, capture and report were read; the answer is whether the report is that of a history of the script with the
-- capture and the endpoints that stand; it was written, or a front of it, and so the call ended. The endpoints are as
-- before.
pub record Answered (natives : NativeData) (before after : Outside) (name report : List ℕ)
    (packets : Option (List ℕ)) (end : End) : Type 0 where
  pub stood : ShelfStood before.shelf after.shelf
  pub both : ReadBoth natives before.shelf.files name packets
  pub text : List ℕ
  pub read : IsContent before.shelf.files report text
  pub few : length text ≤ max_report
  pub whether : Bool
  pub judged : Decides whether (IsRunText both.script both.capture before.ends text)
  pub tells : TellsAnswer before.sink after.sink whether end
  pub ends : after.ends ≡ before.ends

-- Why no report was judged: script and capture weren't both read; or they were, and the report wasn't.
abbrev pub NotJudgedBy : NativeData → ShelfSeen → ShelfSeen → List ℕ → List ℕ → Option (List ℕ) → End
    → Type 0
NotJudgedBy natives before after name report packets end =
    NotBothBy natives before after name packets end
    ⊎ (ReadBoth natives before.files name packets × NoReportBy before after report end)

-- Why a call of this script, report and capture ended so, and what was written: no report was judged, and only the line
-- of the end was written; or it was answered. Want of memory to judge the report ends the call as want of memory to
-- read it does.
abbrev pub CheckHasCause : NativeData → Outside → Outside → List ℕ → List ℕ → Option (List ℕ) → End
    → Type 0
CheckHasCause natives before after name report packets end =
    (NotJudgedBy natives before.shelf after.shelf name report packets end × OnlyStops before after end)
    ⊎ Answered natives before after name report packets end

-- The status is the number of an end that has its cause.
abbrev pub IsCheckStatus : NativeData → Outside → Outside → List ℕ → List ℕ → Option (List ℕ) → ℕ
    → Type 0
IsCheckStatus natives before after name report packets status =
    (end : End) × (status ≡ exit_status end)
    × CheckHasCause natives before after name report packets end

-- ---- what the status tells where the shelf tells its files

-- The shelf tells its files: under the name stands a script, and the capture that is named is a good one.
pub record HoldsBoth (natives : NativeData) (shelf : ShelfSeen) (held : List File) (name : List ℕ)
    (text : List ℕ) (packets : Option (List ℕ)) (capture : Option CaptureSeen) : Type 0 where
  pub holds : HoldsText shelf held name text
  pub script : IsScriptText natives text
  pub captured : IsCaptured (Some held) packets capture

-- A bad capture beside a script is refused, unless a read failed or memory ran out.
abbrev pub KnowsBadRecord : NativeData → Outside → Outside → List ℕ → Option (List ℕ) → ℕ → Type 0
KnowsBadRecord natives before after name packets status =
    (capture : List ℕ) → packets ≡ Some capture
    → KnowsBadCapture natives before after name capture status

-- A report that isn't there beside these is told to be absent, unless a read failed or memory ran out.
abbrev pub KnowsNoReport : NativeData → Outside → Outside → List ℕ → List ℕ → Option (List ℕ) → ℕ
    → Type 0
KnowsNoReport natives before after name report packets status =
    (held : List File) (text : List ℕ) (capture : Option CaptureSeen)
    → HoldsBoth natives before.shelf held name text packets capture
    → content held report ≡ None
    → NoReadFailed before after → (status ≡ 6) ⊎ (status ≡ 7)

-- A report of too many bytes beside these is told to be so, unless a read failed or memory ran out.
abbrev pub KnowsLongReport : NativeData → Outside → Outside → List ℕ → List ℕ → Option (List ℕ) → ℕ
    → Type 0
KnowsLongReport natives before after name report packets status =
    (held : List File) (text told : List ℕ) (capture : Option CaptureSeen)
    → HoldsBoth natives before.shelf held name text packets capture
    → content held report ≡ Some told → max_report < length told
    → NoReadFailed before after → (status ≡ 10) ⊎ (status ≡ 7)

-- The status says whether the report is that of a history of the script, as this was read. (Two readings of a text are
-- the same script, but for where its boxes lie.)
abbrev pub SaysWhether : NativeData → List ℕ → Option CaptureSeen → List NamedEnd → List ℕ → ℕ → Type 0
SaysWhether natives text capture ends told status =
    (script : ScriptData) × IsScript natives text (Ok script)
    × (((status ≡ 0) × IsRunText script capture ends told)
    ⊎ ((status ≡ 9) × (IsRunText script capture ends told → ⊥)))

-- A report of no more bytes beside these is judged, unless a read or a write failed or memory ran out.
abbrev pub KnowsReport : NativeData → Outside → Outside → List ℕ → List ℕ → Option (List ℕ) → ℕ
    → Type 0
KnowsReport natives before after name report packets status =
    (held : List File) (text told : List ℕ) (capture : Option CaptureSeen)
    → HoldsBoth natives before.shelf held name text packets capture
    → content held report ≡ Some told → length told ≤ max_report
    → NoReadFailed before after → (Rose before.sink.faults after.sink.faults → ⊥)
    → SaysWhether natives text capture before.ends told status ⊎ (status ≡ 7)

-- Which status this command always comes to.
pub record CheckKnows (natives : NativeData) (before after : Outside) (name report : List ℕ)
    (packets : Option (List ℕ)) (status : ℕ) : Type 0 where
  pub refused : KnowsRefused natives before after name status
  pub script_absent : KnowsNoScript before after name status
  pub capture_absent : KnowsNoCapture natives before after name packets status
  pub bad_capture : KnowsBadRecord natives before after name packets status
  pub report_absent : KnowsNoReport natives before after name report packets status
  pub long_report : KnowsLongReport natives before after name report packets status
  pub judged : KnowsReport natives before after name report packets status
