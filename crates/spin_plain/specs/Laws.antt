-- With one lane there is one report.
use Rattle.std.specs.Prelude.{◌≡◌, ℕ, Bool, true, false, List, map, Option, Ok, All}
use Rattle.spin_table.specs.declared.refusal.Refusal.TheVariants as refusal
use Rattle.spin_table.specs.declared.refusal.Verdicted.{Verdicted}
use Rattle.spin_table.specs.declared.refusal.Verdicted.TheVariants as verdicted
use Rattle.spin_table.specs.Laws.{without_cycle}
use Rattle.spin_endpoint.specs.Named.{NamedEnd}
use Rattle.spin_script.specs.States.{NativeData, ScriptData}
use Rattle.spin_script.specs.Language.{IsScript}
use Rattle.spin_report.specs.declared.entry.What.{What}
use Rattle.spin_report.specs.declared.entry.What.TheVariants as what
use Rattle.spin_report.specs.declared.entry.Entry.{Entry}
use Rattle.spin_report.specs.Histories.{SegmentSeen, HistorySeen, report_text, entries_of}
use Rattle.spin_report.specs.Runs.{CaptureSeen, RunPoint, IsRun}
use Rattle.spin_plain.specs.Plain.{plain_history, plain_last}

-- it is a refusal for a conflict
abbrev pub is_conflict : Verdicted → Bool
is_conflict (verdicted.Refused (refusal.Conflict cycle)) = true
is_conflict verdict = false

-- it is a command that was refused so
abbrev pub met_conflict : What → Bool
met_conflict (what.Command command verdict) = is_conflict verdict
met_conflict (what.Deed asked reply) = false

-- no command of the history was
abbrev pub HasNoConflict : HistorySeen → Type 0
HasNoConflict history = All (λ entry. met_conflict entry.what ≡ false) (entries_of history)

-- an answer, but for the cycle that a conflict tells
abbrev pub what_without : What → What
what_without (what.Command command verdict) = what.Command command (without_cycle verdict)
what_without (what.Deed asked reply) = what.Deed asked reply

abbrev pub entry_without : Entry → Entry
entry_without entry = record entry { what = what_without entry.what }

abbrev pub segment_without : SegmentSeen → SegmentSeen
segment_without seen = record seen { entries = map entry_without seen.entries }

-- a history, but for the cycles that its conflicts tell
abbrev pub without_cycles : HistorySeen → HistorySeen
without_cycles history = record history { segments = map segment_without history.segments }

-- A text that is a script with one lane was run. Its history is that of the plain dispatcher, but for the cycles that
-- conflicts tell, and it left the state, the records and the endpoints that the plain dispatcher leaves.
abbrev pub OneLaneIsPlain : Type 0
OneLaneIsPlain =
    (n : NativeData) (text : List ℕ) (script : ScriptData) (capture : Option CaptureSeen)
    (ends : List NamedEnd) (history : HistorySeen) (last : RunPoint) → IsScript n text (Ok script)
    → script.lanes ≡ 1 → IsRun script capture ends history last
    → (without_cycles history ≡ plain_history script capture ends)
    × (last ≡ plain_last script capture ends)

-- Where no command of it met a conflict, the text of its report is that of the plain dispatcher's history.
abbrev pub OneLaneOneText : Type 0
OneLaneOneText =
    (n : NativeData) (text : List ℕ) (script : ScriptData) (capture : Option CaptureSeen)
    (ends : List NamedEnd) (history : HistorySeen) (last : RunPoint) → IsScript n text (Ok script)
    → script.lanes ≡ 1 → HasNoConflict history → IsRun script capture ends history last
    → report_text history ≡ report_text (plain_history script capture ends)

-- And where no command of the plain dispatcher's history meets one, that history is one of the script's.
abbrev pub PlainIsRun : Type 0
PlainIsRun =
    (n : NativeData) (text : List ℕ) (script : ScriptData) (capture : Option CaptureSeen)
    (ends : List NamedEnd) → IsScript n text (Ok script) → script.lanes ≡ 1
    → HasNoConflict (plain_history script capture ends)
    → IsRun script capture ends (plain_history script capture ends) (plain_last script capture ends)
