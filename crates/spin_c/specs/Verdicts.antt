-- What a report is judged to be, and by which numbers that is told.
use Rattle.std.specs.Prelude.{ℕ, Bool, true, false, List, [], Option, Ok, Decides}
use Rattle.spin_endpoint.specs.Named.{NamedEnd}
use Rattle.spin_report.specs.Runs.{CaptureSeen}
use Rattle.spin_script.specs.Language.{IsScript}
use Rattle.spin_script.specs.States.{NativeData, ScriptData}
use Rattle.spin_check.specs.RunTexts.{IsRunText, StandAs}
use Rattle.spin_c.specs.Cases.{IsUnread, unread_fault, unread_number}
use Rattle.spin_c.specs.Packets.{AreCaptured}
use Rattle.spin_c.specs.declared.told.SpinFault.{SpinFault}
use Rattle.spin_c.specs.declared.verdict.Verdict.{Verdict}
use Rattle.spin_c.specs.declared.verdict.Verdict.TheVariants as verdict

-- a host that isn't Rattle hands in no natives
abbrev pub no_natives : NativeData
no_natives = record { handlers = []; guards = []; authorisers = [] }

-- The text is that of a script, and the capture, where one is handed in, a good one; and of any endpoints, where just
-- those of the script stand that have these names, it is decided whether the report is that of one legal history of the
-- script with that capture.
pub record IsJudged (natives : NativeData) (text : List ℕ) (packets : Option (List ℕ)) (names : List (List ℕ))
    (report : List ℕ) (yes : Bool) : Type 0 where
  pub script : ScriptData
  pub read : IsScript natives text (Ok script)
  pub capture : Option CaptureSeen
  pub captured : AreCaptured packets capture
  pub judged : (ends : List NamedEnd) → StandAs script.endpoints names ends
      → Decides yes (IsRunText script capture ends report)

-- What a verdict says.
abbrev pub IsVerdict : NativeData → List ℕ → Option (List ℕ) → List (List ℕ) → List ℕ → Verdict → Type 0
IsVerdict natives text packets names report verdict.History = IsJudged natives text packets names report true
IsVerdict natives text packets names report verdict.NoHistory = IsJudged natives text packets names report false
IsVerdict natives text packets names report (verdict.Unread why) = IsUnread natives text packets why

-- the number that a verdict is told by
abbrev pub number_of : Verdict → ℕ
number_of verdict.History = 0
number_of verdict.NoHistory = 3
number_of (verdict.Unread why) = unread_number why

-- where the script is bad, or the capture, and why
abbrev pub fault_of : Verdict → SpinFault
fault_of (verdict.Unread why) = unread_fault why
fault_of other = record { line = 0; cause = 0 }
