-- Which texts are reports of a script.
use Rattle.std.specs.Prelude.{◌≡◌, ℕ, List, All, Option, bytes_eq}
use Rattle.std.specs.List.{list_any}
use Rattle.spin_endpoint.specs.Named.{NamedEnd, stands}
use Rattle.spin_script.specs.States.{ScriptData}
use Rattle.spin_report.specs.Histories.{HistorySeen, report_text}
use Rattle.spin_report.specs.Runs.{RunPoint, CaptureSeen, IsRun}
use Rattle.spin_pcap.specs.declared.captured.Captured as given

-- Of the endpoints that a script names, just those stand whose names are among these.
abbrev pub StandAs : List (List ℕ) → List (List ℕ) → List NamedEnd → Type 0
StandAs endpoints names ends =
    All (λ endpoint. stands endpoint ends ≡ list_any (bytes_eq endpoint) names) endpoints

-- the capture that was read whole
abbrev pub capture_of : given.Captured → CaptureSeen
capture_of capture = record { frames = capture.frames; cut = capture.cut }

-- The text is the report of a history of the script with that capture and those endpoints.
abbrev pub IsRunText : ScriptData → Option CaptureSeen → List NamedEnd → List ℕ → Type 0
IsRunText script capture ends text =
    (history : HistorySeen) × (last : RunPoint) × IsRun script capture ends history last
    × (text ≡ report_text history)
