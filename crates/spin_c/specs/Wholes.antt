-- What a whole run comes to, and how that is told in the buffers of a caller.
use Rattle.std.specs.Prelude.{◌≡◌, ◌≤◌, ◌+◌, ◌⊎◌, ◌∷◌, [], ℕ, List, Option, Ok, length}
use Rattle.std.specs.List.{flat_map}
use Rattle.spin_endpoint.specs.Named.{NamedEnd}
use Rattle.spin_endpoint.specs.Sends.{SentSeen}
use Rattle.spin_report.specs.Runs.{CaptureSeen}
use Rattle.spin_script.specs.Language.{IsScript}
use Rattle.spin_script.specs.States.{NativeData, ScriptData}
use Rattle.spin_check.specs.RunTexts.{StandAs}
use Rattle.spin_whole.specs.Runs.{IsRanAs}
use Rattle.spin_whole.specs.declared.ran.Ran.{Ran}
use Rattle.spin_c.specs.Cases.{IsUnread, unread_fault, unread_number}
use Rattle.spin_c.specs.Packets.{AreCaptured}
use Rattle.spin_c.specs.Tellings.{laid_over}
use Rattle.spin_c.specs.declared.reading.Unread.{Unread}
use Rattle.spin_c.specs.declared.whole_run.Output.{Output}
use Rattle.spin_c.specs.declared.whole_run.SpinRan.{SpinRan}
use Rattle.spin_c.specs.declared.whole_run.SpinSending.{SpinSending}
use Rattle.spin_c.specs.declared.whole_run.Whole.{Whole}
use Rattle.spin_c.specs.declared.whole_run.Whole.TheVariants as whole

-- the bytes of these sends, one behind another
abbrev pub bytes_sent : List SentSeen → List ℕ
bytes_sent sends = flat_map (λ sent. sent.bytes) sends

-- a send whose bytes begin at a place
abbrev pub range_at : ℕ → SentSeen → SpinSending
range_at at sent = record { endpoint = sent.endpoint; at = at; length = length sent.bytes }

-- these sends, whose bytes lie one behind another from a place on
abbrev pub ranges_from : ℕ → List SentSeen → List SpinSending
ranges_from at [] = []
ranges_from at (sent ∷ sends) = range_at at sent ∷ ranges_from (at + length sent.bytes) sends

-- What is handed out has the report of the run, its sends and their bytes.
pub record IsLaidOut (ran : Ran) (output : Output) : Type 0 where
  pub report : output.report ≡ ran.report
  pub sends : output.sends ≡ ranges_from 0 ran.sends
  pub bytes : output.bytes ≡ bytes_sent ran.sends

-- The text is that of a script, and the capture, where one is handed in, a good one; and over any endpoints, of which
-- just those of the script stand that have these names, this is what one legal history of the script hands out.
pub record HandsOut (natives : NativeData) (text : List ℕ) (packets : Option (List ℕ)) (names : List (List ℕ))
    (output : Output) : Type 0 where
  pub script : ScriptData
  pub read : IsScript natives text (Ok script)
  pub capture : Option CaptureSeen
  pub captured : AreCaptured packets capture
  pub ran : Ran
  pub is : (ends : List NamedEnd) → StandAs script.endpoints names ends → IsRanAs script capture ends ran
  pub laid : IsLaidOut ran output

-- What a whole run comes to.
abbrev pub RunsTo : NativeData → List ℕ → Option (List ℕ) → List (List ℕ) → Whole → Type 0
RunsTo natives text packets names (whole.Ran output) = HandsOut natives text packets names output
RunsTo natives text packets names (whole.Unread why) = IsUnread natives text packets why

-- ---- buffers

-- each part has room in its buffer
abbrev pub Fits : Output → Output → Type 0
Fits output buffers =
    (length output.report ≤ length buffers.report) × (length output.sends ≤ length buffers.sends)
    × (length output.bytes ≤ length buffers.bytes)

-- the buffers with each part at the front of its own
abbrev pub filled : Output → Output → Output
filled output buffers = record {
  report = laid_over output.report buffers.report;
  sends = laid_over output.sends buffers.sends;
  bytes = laid_over output.bytes buffers.bytes;
}

-- They are filled where all parts have room; else they are as they were, which is told.
abbrev pub Fills : Output → Output → ℕ → Output → Type 0
Fills output before number after =
    (Fits output before × (number ≡ 0) × (after ≡ filled output before))
    ⊎ ((Fits output before → ⊥) × (number ≡ 11) × (after ≡ before))

-- how long the parts are
abbrev pub sizes_of : Output → SpinRan
sizes_of output = record {
  report = length output.report;
  sends = length output.sends;
  bytes = length output.bytes;
  line = 0;
  cause = 0;
}

-- no part, and where what is handed in is refused, and why
abbrev pub refused_by : Unread → SpinRan
refused_by why = record {
  report = 0;
  sends = 0;
  bytes = 0;
  line = (unread_fault why).line;
  cause = (unread_fault why).cause;
}

-- What a run hands out fills the buffers, or doesn't, and its sizes are told; else it is told why there is no run, and
-- the buffers are as they were.
abbrev pub TellsWhole : Whole → Output → ℕ → Output → SpinRan → Type 0
TellsWhole (whole.Ran output) before number after ran = Fills output before number after × (ran ≡ sizes_of output)
TellsWhole (whole.Unread why) before number after ran =
    (number ≡ unread_number why) × (after ≡ before) × (ran ≡ refused_by why)
