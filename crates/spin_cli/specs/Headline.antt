-- The headline: what stands, and what the endpoints have received, where `run` or `join` ends with status 0.
use Rattle.std.specs.Prelude.{◌≡◌, ℕ, Option, Some, List, [], ◌∷◌, Ok, codes}
use Rattle.std.specs.Io.KnownBytes.{Appends}
use Rattle.std.specs.Option.{option_to_list}
use Rattle.spin_outside.specs.Files.{File, content}
use Rattle.spin_reass.specs.Joining.{joined_frames}
use Rattle.spin_script.specs.Language.{IsScript}
use Rattle.spin_script.specs.States.{NativeData, ScriptData}
use Rattle.spin_report.specs.Histories.{HistorySeen, report_text}
use Rattle.spin_report.specs.Runs.{CaptureSeen, IsRun, RunPoint}
use Rattle.spin_inputs.specs.Outside.{Outside}
use Rattle.spin_cli.specs.Statuses.{Call}
use Rattle.spin_inputs.specs.Texts.{SaysScript}
use Rattle.spin_inputs.specs.WholeCaptures.{HasCapture, IsNamedCapture}

-- The script under that name was run to its end, over a shelf with these files: there are one script, one capture and
-- one history of which all this holds.
pub record WasRunWhole (natives : NativeData) (held : List File) (name : List ℕ)
    (IsItsCapture : Option CaptureSeen → Type 0) (before after : Outside) : Type 0 where
  -- The text under the name says the script, and is accepted as it: no line of it is refused.
  pub text : List ℕ
  pub found : content held name ≡ Some text
  pub script : ScriptData
  pub said : SaysScript natives text script
  pub accepted : IsScript natives text (Ok script)
  -- The capture is that of the call, or none.
  pub captured : Option CaptureSeen
  pub capture : IsItsCapture captured
  -- The history is a legal one, which answers what the script asks over the records of the capture.
  pub history : HistorySeen
  pub last : RunPoint
  pub run : IsRun script captured before.ends history last
  -- To the output exactly the report of the history was appended.
  pub written : Appends before.sink.told after.sink.told (report_text history)
  -- The endpoints are as the sends and retirements of the history leave them.
  pub received : after.ends ≡ last.ends

-- The headline: where the shelf tells its files, the words are `run NAME` or `run NAME PACKETS`, and the status is 0,
-- the script was run to its end, over the capture that is named, or none.
abbrev pub Headline : Call → Type 0
Headline call =
    (held : List File) (name : List ℕ) (packets : Option (List ℕ))
    → call.before.shelf.files ≡ Some held
    → call.words ≡ codes "run" ∷ name ∷ option_to_list packets
    → call.status ≡ 0
    → WasRunWhole call.natives held name (IsNamedCapture held packets) call.before call.after

-- This is the capture of that name as it is joined: its records with fragmented datagrams made whole, and the rest that
-- it has behind them.
pub record IsJoinedWhole (held : List File) (packets : List ℕ) (captured : Option CaptureSeen) : Type 0 where
  pub file : CaptureSeen
  pub capture : HasCapture held packets file
  pub joined : captured ≡ Some (record { frames = joined_frames [] file.frames; cut = file.cut })

-- The same of `join NAME PACKETS`, over the joined capture.
abbrev pub HeadlineJoined : Call → Type 0
HeadlineJoined call =
    (held : List File) (name packets : List ℕ)
    → call.before.shelf.files ≡ Some held
    → call.words ≡ codes "join" ∷ name ∷ packets ∷ []
    → call.status ≡ 0
    → WasRunWhole call.natives held name (IsJoinedWhole held packets) call.before call.after
