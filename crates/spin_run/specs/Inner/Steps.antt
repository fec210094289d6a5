-- What one segment does, from one moment between segments to the next.
use Rattle.std.specs.Prelude.{◌≡◌, ◌<◌, ◌≤◌, ◌⊎◌, ◌+◌, ℕ, List, [], length, take, drop, Option, Result, Ok, Err}
use Rattle.std.specs.List.{flat_map}
use Rattle.spin_outside.specs.Seen.{SinkSeen}
use Rattle.spin_outside.specs.Sources.{SourceSeen}
use Rattle.spin_pcap.specs.declared.fault.PcapFault.{PcapFault}
use Rattle.spin_pcap.specs.declared.next.Next.{Next}
use Rattle.spin_pcap.specs.Passing.{ReaderState}
use Rattle.spin_endpoint.specs.Named.{NamedEnd}
use Rattle.spin_endpoint.specs.Sends.{StopsAt, all_retired}
use Rattle.spin_table.specs.Setups.{SetupData}
use Rattle.spin_table.specs.States.{State}
use Rattle.spin_script.specs.declared.script.Segment.{Segment}
use Rattle.spin_script.specs.States.{ScriptData}
use Rattle.spin_report.specs.Histories.{SegmentSeen, HistorySeen, front_text, report_text, entries_of}
use Rattle.spin_report.specs.Segments.{wanted_by}
use Rattle.spin_report.specs.Runs.{RunPoint, IsSegmentRun, segment_sends}
use Rattle.spin_run.specs.declared.end.RunEnd.{RunEnd}
use Rattle.spin_run.specs.declared.end.RunEnd.TheVariants as end
use Rattle.spin_run.specs.Records.{room_of}
use Rattle.spin_run.specs.Ends.{RunSeen, HasRun, segment_text, wanted_to, Writes, WritesInto, IsWhole, EndsBy, CountsBy}
use Rattle.spin_run.specs.Summaries.{Counts, counts_in}
use Rattle.spin_run.specs.Inner.Tallies.{TalliesOn}
use Rattle.spin_run.specs.Inner.Reading.{given_by, IsGoing, IsCaptureRefused, HasTaken, Reads, TakesFrames}

-- ---- moments between segments

-- the state of the lanes, the capture, and what is seen outside
pub record RunState : Type 0 where
  pub state : State
  pub capture : Option ReaderState
  pub outside : RunSeen

abbrev pub moment : State → Option ReaderState → SourceSeen → SinkSeen → List NamedEnd → RunState
moment state capture source sink ends = record {
  state = state;
  capture = capture;
  outside = record { source = source; sink = sink; ends = ends };
}

-- as a standing, where these records are left
abbrev pub standing : RunState → List (List ℕ) → RunPoint
standing now left = record { state = now.state; left = left; ends = now.outside.ends }

-- ---- one segment

-- what does not change in a run
pub record Setting : Type 0 where
  pub setup : SetupData
  pub lanes : ℕ
  pub endpoints : List (List ℕ)

abbrev pub setting : SetupData → ℕ → List (List ℕ) → Setting
setting setup lanes endpoints = record { setup = setup; lanes = lanes; endpoints = endpoints }

abbrev pub setting_of : ScriptData → Setting
setting_of script = setting script.setup script.lanes script.endpoints

-- The segment was run from the moment on: this is its part of the history, and so it leaves the standing.
abbrev pub RunsFrom : Setting → Segment → RunState → List (List ℕ) → SegmentSeen → RunPoint → Type 0
RunsFrom s segment before left part next =
    IsSegmentRun s.setup s.lanes s.endpoints segment (standing before left) part next

-- It was run, and its text was appended; of the records that were left these are left then.
pub record HasRunOne (s : Setting) (number : ℕ) (segment : Segment) (before after : RunState)
    (left next : List (List ℕ)) : Type 0 where
  pub part : SegmentSeen
  pub run : RunsFrom s segment before left part (standing after next)
  pub text : Writes before.outside after.outside (segment_text number part)
  pub total : given_by after.capture + length next ≡ given_by before.capture + length left
  pub going : IsGoing after.capture
      → IsGoing before.capture
      × (given_by after.capture ≡ given_by before.capture + wanted_by segment.lines)

abbrev pub retired_for : Setting → Segment → RunState → List NamedEnd
retired_for s segment before = all_retired s.endpoints segment.retires before.outside.ends

-- how it stopped
abbrev pub StopsOne : Setting → ℕ → Segment → RunState → RunState → List (List ℕ)
    → Option (Result Next PcapFault) → RunEnd → Type 0
StopsOne s number segment before after left rest (end.Capture record_number reason) =
    IsCaptureRefused before.capture left rest record_number reason
    × (length left < wanted_by segment.lines)
    × (after.outside.ends ≡ retired_for s segment before)
    × Writes before.outside after.outside []
StopsOne s number segment before after left rest end.ReadFault =
    IsGoing before.capture × (0 < wanted_by segment.lines)
    × (after.outside.ends ≡ retired_for s segment before)
    × Writes before.outside after.outside []
StopsOne s number segment before after left rest end.WriteFault =
    (part : SegmentSeen) × (next : RunPoint) × RunsFrom s segment before left part next
    × (after.outside.ends ≡ next.ends)
    × WritesInto before.outside after.outside [] (segment_text number part)
StopsOne s number segment before after left rest end.NoMemory =
    ((after.outside.ends ≡ before.outside.ends)
    ⊎ ((after.outside.ends ≡ retired_for s segment before)
    ⊎ ((part : SegmentSeen) × (next : RunPoint) × RunsFrom s segment before left part next
    × (after.outside.ends ≡ next.ends))))
    × Writes before.outside after.outside []
StopsOne s number segment before after left rest (end.Endpoint endpoint) =
    (part : SegmentSeen) × (next : RunPoint) × RunsFrom s segment before left part next
    × StopsAt s.endpoints (segment_sends part) endpoint (retired_for s segment before)
    after.outside.ends
    × Writes before.outside after.outside []
StopsOne s number segment before after left rest end.Whole = ⊥

-- It was run and told, and its entries were counted, where they are.
pub record HasTold (s : Setting) (number : ℕ) (segment : Segment) (before after : RunState)
    (tally tally' : Option Counts) (left next : List (List ℕ)) : Type 0 where
  pub one : HasRunOne s number segment before after left next
  pub counted : TalliesOn tally tally' (counts_in one.part.entries)

-- of these records, and of their rest, where the others are left then
abbrev pub OneBy : Setting → ℕ → Segment → RunState → RunState → Option Counts → Option Counts
    → Result (Unit {0}) RunEnd → List (List ℕ) → List (List ℕ) → Option (Result Next PcapFault)
    → Type 0
OneBy s number segment before after tally tally' (Ok done) left next rest =
    HasTold s number segment before after tally tally' left next
OneBy s number segment before after tally tally' (Err stop) left next rest =
    StopsOne s number segment before after left rest stop

-- One segment was run and told from one moment to the next, or it stopped so; and so much was taken of the capture.
abbrev pub RunsOne : Setting → ℕ → Segment → RunState → Option Counts → RunState → Option Counts
    → Result (Unit {0}) RunEnd → Type 0
RunsOne s number segment before tally after tally' result =
    Reads before.capture before.outside.source after.capture after.outside.source result (λ left next rest.
    OneBy s number segment before after tally tally' result left next rest
    × TakesFrames (wanted_by segment.lines) before.capture after.capture
    before.outside.source after.outside.source result left)

-- which counts rose
abbrev pub ResultCounts : {T : Type 0} → List (List ℕ) → RunSeen → RunSeen → Result T RunEnd → Type 0
ResultCounts names before after (Ok done) = CountsBy names before after end.Whole
ResultCounts names before after (Err stop) = CountsBy names before after stop

-- ---- the segments so far

-- So many segments were run, from the start on, where the capture had this reader and these records, to this moment,
-- where the others are left.
pub record Stands (script : ScriptData) (reader : Option ReaderState) (frames left : List (List ℕ))
    (start : RunSeen) (count : ℕ) (now : RunState) : Type 0 where
  pub parts : List SegmentSeen
  pub run : HasRun script frames start.ends count parts (standing now left)
  pub text : Writes start now.outside (front_text parts)
  pub left_is : left ≡ drop (wanted_to script count) frames
  pub taken : wanted_to script count ≤ length frames
      → HasTaken reader now.capture start.source now.outside.source (take (wanted_to script count) frames)
  pub total : given_by now.capture + length left ≡ length frames
  pub going : IsGoing now.capture → given_by now.capture ≡ wanted_to script count

-- So many were run and told, and their entries were counted, where they are.
pub record HasToldAll (script : ScriptData) (reader : Option ReaderState) (frames left : List (List ℕ))
    (start : RunSeen) (count : ℕ) (now : RunState) (tally tally' : Option Counts) : Type 0 where
  pub stands : Stands script reader frames left start count now
  pub counted : TalliesOn tally tally' (counts_in (flat_map (λ part. part.entries) stands.parts))

-- The whole run ends so; and where it was whole, all entries were counted, where they are.
abbrev pub WalksBy : ScriptData → ℕ → List (List ℕ) → Option (Result Next PcapFault)
    → RunSeen → Option Counts → RunSeen → Option Counts → RunEnd → Type 0
WalksBy script past frames rest before tally after tally' end.Whole =
    (history : HistorySeen) × IsWhole script frames rest before.ends after.ends history
    × Writes before after (report_text history)
    × TalliesOn tally tally' (counts_in (entries_of history))
WalksBy script past frames rest before tally after tally' stop =
    EndsBy script past frames rest before after stop

-- All were run, and the log has that length; or it stopped so.
abbrev pub AllBy : ScriptData → Option ReaderState → RunSeen → Option Counts → Option ReaderState
    → RunSeen → Option Counts → Result ℕ RunEnd → List (List ℕ) → List (List ℕ)
    → Option (Result Next PcapFault) → Type 0
AllBy script reader start tally capture after tally' (Ok end_length) frames left rest =
    (state : State) × (end_length ≡ state.place)
    × HasToldAll script reader frames left start (length script.segments)
    (record { state = state; capture = capture; outside = after }) tally tally'
AllBy script reader start tally capture after tally' (Err stop) frames left rest =
    WalksBy script (room_of reader) frames rest start tally after tally' stop

-- so it is of the records that the reader has at the start
abbrev pub RunsScript : ScriptData → Option ReaderState → RunSeen → Option Counts → Option ReaderState
    → RunSeen → Option Counts → Result ℕ RunEnd → Type 0
RunsScript script reader start tally capture after tally' result =
    Reads reader start.source capture after.source result
    (AllBy script reader start tally capture after tally' result)

-- the script of that version whose segments run in the setting
abbrev pub script_in : Setting → List Segment → ℕ → ScriptData
script_in s segments version = record {
  setup = s.setup;
  version = version;
  endpoints = s.endpoints;
  lanes = s.lanes;
  segments = segments;
}

-- From a moment at which none was run, all were run, and the log has that length; or it stopped so: whatever the
-- script's version is, and wherever the run began that came to the moment.
abbrev pub RunsAll : Setting → List Segment → RunState → Option Counts → Option ReaderState → RunSeen
    → Option Counts → Result ℕ RunEnd → Type 0
RunsAll s segments now counted capture after tally' result =
    Reads now.capture now.outside.source capture after.source result (λ frames left rest.
    (version : ℕ) (reader : Option ReaderState) (start : RunSeen) (tally : Option Counts)
    → HasToldAll (script_in s segments version) reader frames frames start 0 now tally counted
    → AllBy (script_in s segments version) reader start tally capture after tally' result
    frames left rest)
