-- How a run ends, and what it has done by then.
use Rattle.std.specs.Prelude.{◌≡◌, ◌≢◌, ◌<◌, ◌≤◌, ◌⊎◌, ◌+◌, ℕ, true, List, [], ◌++◌, length, map, take}
use Rattle.std.specs.Prelude.{sum_by, slice_get, slice_index_or, Option, Some, None, Result, Ok, Err}
use Rattle.std.specs.List.{HoldsAt}
use Rattle.std.specs.Option.{option_map_or}
use Rattle.std.specs.Io.KnownBytes.{Appends}
use Rattle.spin_outside.specs.Counts.{Rose}
use Rattle.spin_outside.specs.Seen.{SinkSeen}
use Rattle.spin_outside.specs.Sources.{SourceSeen}
use Rattle.spin_pcap.specs.declared.fault.PcapFault.{PcapFault}
use Rattle.spin_pcap.specs.declared.next.Next.{Next}
use Rattle.spin_pcap.specs.declared.next.Next.TheVariants as next
use Rattle.spin_pcap.specs.Passing.{fault_number}
use Rattle.spin_endpoint.specs.Named.{NamedEnd, stands_as}
use Rattle.spin_endpoint.specs.Sends.{StopsAt, all_retired, name_of}
use Rattle.spin_script.specs.declared.script.Segment.{Segment}
use Rattle.spin_script.specs.States.{ScriptData}
use Rattle.spin_text.specs.Words.{ended, text_of}
use Rattle.spin_report.specs.Histories.{SegmentSeen, HistorySeen, first_line}
use Rattle.spin_report.specs.Histories.{segment_lines, end_line, front_text, report_text}
use Rattle.spin_report.specs.Segments.{wanted_by}
use Rattle.spin_report.specs.Runs.{RunPoint, CaptureSeen, AreRun, IsSegmentRun, IsRun, segment_sends, start_with}
use Rattle.spin_run.specs.declared.end.RunEnd.{RunEnd}
use Rattle.spin_run.specs.declared.end.RunEnd.TheVariants as end
use Rattle.spin_run.specs.Records.{IsTakenPast}

-- what contracts see of the source, the sink and the endpoints at one moment
pub record RunSeen : Type 0 where
  pub source : SourceSeen
  pub sink : SinkSeen
  pub ends : List NamedEnd

-- this source, this sink and these endpoints, as they are seen at one moment
abbrev pub seen : SourceSeen → SinkSeen → List NamedEnd → RunSeen
seen source sink ends = record { source = source; sink = sink; ends = ends }

-- ---- the segments so far

-- So many segments were run: these are their parts of the history, and so they left it.
pub record HasRun (script : ScriptData) (frames : List (List ℕ)) (ends : List NamedEnd) (count : ℕ)
    (parts : List SegmentSeen) (at : RunPoint) : Type 0 where
  pub there : count ≤ length script.segments
  pub run : AreRun script (take count script.segments) (start_with script frames ends) parts at

-- the endpoints, where those are retired that segment `count` retires, if it is there
abbrev pub retired_before : ScriptData → ℕ → List NamedEnd → List NamedEnd
retired_before script count ends =
    option_map_or (λ segment. all_retired script.endpoints segment.retires ends)
    (slice_get script.segments count) ends

-- This segment is there, and is run from the one standing to the next.
pub record RunsNext (script : ScriptData) (count : ℕ) (at : RunPoint) (seen : SegmentSeen)
    (next : RunPoint) : Type 0 where
  pub segment : Segment
  pub there : slice_get script.segments count ≡ Some segment
  pub run : IsSegmentRun script.setup script.lanes script.endpoints segment at seen next

-- how many records the packet lines of the first segments want, so many of them
abbrev pub wanted_to : ScriptData → ℕ → ℕ
wanted_to script count = sum_by (λ segment. wanted_by segment.lines) (take count script.segments)

-- The record of that number, counted from 1, is wanted in segment `count`, or behind all segments, where the capture is
-- read to its end.
pub record IsReadAt (script : ScriptData) (number count : ℕ) : Type 0 where
  pub behind : wanted_to script count < number
  pub before : (number ≤ wanted_to script (count + 1)) ⊎ (count ≡ length script.segments)

-- A capture is there, and some record that it has, or what stands behind its last one, is read in segment `count`, or
-- behind all segments.
pub record IsReading (script : ScriptData) (frames : List (List ℕ)) (rest : Option (Result Next PcapFault)) (count : ℕ)
    : Type 0 where
  pub capture : rest ≢ None
  pub number : ℕ
  pub there : number ≤ length frames + 1
  pub read_at : IsReadAt script number count

-- ---- the text

-- the text of the segment of that number, each line ended by a line feed
abbrev pub segment_text : ℕ → SegmentSeen → List ℕ
segment_text number part = text_of (segment_lines number part)

-- the last line of a history's report, ended by a line feed
abbrev pub end_text : HistorySeen → List ℕ
end_text history = ended (end_line history.end history.capture)

-- The text was appended.
abbrev pub Writes : RunSeen → RunSeen → List ℕ → Type 0
Writes before after text = Appends before.sink.told after.sink.told text

-- The text was appended, and of the one behind it a front, and not all of it.
abbrev pub WritesInto : RunSeen → RunSeen → List ℕ → List ℕ → Type 0
WritesInto before after text behind =
    (n : ℕ) × (n < length behind) × Writes before after (text ++ take n behind)

-- ---- the capture

-- Where segment `count` is there, and the capture has all records that the segments up to it want, it included: of the
-- capture no more was taken than these, and so many bytes past them.
abbrev pub TakesFor : ScriptData → ℕ → List (List ℕ) → ℕ → RunSeen → RunSeen → Type 0
TakesFor script past frames count before after =
    count < length script.segments → wanted_to script (count + 1) ≤ length frames
    → IsTakenPast past before.source after.source (take (wanted_to script (count + 1)) frames)

-- what is told of a capture that was read whole: none where there is none
abbrev pub IsReadWhole : List (List ℕ) → Option (Result Next PcapFault) → Option CaptureSeen → Type 0
IsReadWhole frames None captured = captured ≡ None
IsReadWhole frames (Some (Ok next.Packet)) captured = ⊥
IsReadWhole frames (Some (Ok next.End)) captured =
    captured ≡ Some (record { frames = frames; cut = 0 })
IsReadWhole frames (Some (Ok (next.Cut count))) captured =
    captured ≡ Some (record { frames = frames; cut = count })
IsReadWhole frames (Some (Err wrong)) captured = ⊥

-- The whole history of the script with that capture, and so it leaves the endpoints.
pub record IsWhole (script : ScriptData) (frames : List (List ℕ))
    (rest : Option (Result Next PcapFault)) (ends ends' : List NamedEnd) (history : HistorySeen)
    : Type 0 where
  pub captured : Option CaptureSeen
  pub capture_is : IsReadWhole frames rest captured
  pub last : RunPoint
  pub run : IsRun script captured ends history last
  pub ends_are : ends' ≡ last.ends

-- ---- the ends

-- The endpoints are as the segments so far left them; or the next is begun, and its own are retired; or all of its
-- sends are made, too.
abbrev pub EndsWithin : ScriptData → ℕ → RunPoint → List NamedEnd → Type 0
EndsWithin script count at ends =
    (ends ≡ at.ends)
    ⊎ ((ends ≡ retired_before script count at.ends)
    ⊎ ((part : SegmentSeen) × (next : RunPoint) × RunsNext script count at part next × (ends ≡ next.ends)))

-- The sink failed in the first line, in the text of a segment that was run, or in the last line.
abbrev pub StopsWriting : ScriptData → ℕ → List (List ℕ) → Option (Result Next PcapFault)
    → RunSeen → RunSeen → Type 0
StopsWriting script past frames rest before after =
    (WritesInto before after [] (ended first_line) × (after.ends ≡ before.ends)
    × IsTakenPast past before.source after.source [])
    ⊎ (((count : ℕ) × (parts : List SegmentSeen) × (at : RunPoint)
    × HasRun script frames before.ends count parts at
    × (part : SegmentSeen) × (next : RunPoint) × RunsNext script count at part next
    × WritesInto before after (front_text parts) (segment_text count part)
    × (after.ends ≡ next.ends)
    × TakesFor script past frames count before after)
    ⊎ ((history : HistorySeen) × IsWhole script frames rest before.ends after.ends history
    × WritesInto before after (front_text history.segments) (end_text history)))

-- A run of the script ends so, where the capture has these records and then that rest. Of the capture no more is taken
-- than the records that are wanted up to the stop, and so many bytes past them; a run that comes to the end of the
-- capture takes all of it.
abbrev pub EndsBy : ScriptData → ℕ → List (List ℕ) → Option (Result Next PcapFault)
    → RunSeen → RunSeen → RunEnd → Type 0
EndsBy script past frames rest before after end.Whole =
    (history : HistorySeen) × IsWhole script frames rest before.ends after.ends history
    × Writes before after (report_text history)
EndsBy script past frames rest before after (end.Capture at_record fault) =
    (wrong : PcapFault) × (rest ≡ Some (Err wrong)) × (fault ≡ fault_number wrong)
    × (at_record ≡ length frames + 1)
    × (count : ℕ) × (parts : List SegmentSeen) × (at : RunPoint)
    × HasRun script frames before.ends count parts at
    × IsReadAt script at_record count
    × Writes before after (front_text parts)
    × (after.ends ≡ retired_before script count at.ends)
EndsBy script past frames rest before after end.ReadFault =
    (count : ℕ) × (parts : List SegmentSeen) × (at : RunPoint)
    × HasRun script frames before.ends count parts at
    × IsReading script frames rest count
    × Writes before after (front_text parts)
    × (after.ends ≡ retired_before script count at.ends)
    × TakesFor script past frames count before after
EndsBy script past frames rest before after end.WriteFault = StopsWriting script past frames rest before after
EndsBy script past frames rest before after end.NoMemory =
    (count : ℕ) × (parts : List SegmentSeen) × (at : RunPoint)
    × HasRun script frames before.ends count parts at
    × Writes before after (front_text parts)
    × EndsWithin script count at after.ends
    × TakesFor script past frames count before after
EndsBy script past frames rest before after (end.Endpoint endpoint) =
    (count : ℕ) × (parts : List SegmentSeen) × (at : RunPoint)
    × HasRun script frames before.ends count parts at
    × (part : SegmentSeen) × (next : RunPoint) × RunsNext script count at part next
    × StopsAt script.endpoints (segment_sends part) endpoint (retired_before script count at.ends) after.ends
    × Writes before after (front_text parts)
    × TakesFor script past frames count before after

-- ---- counts of faults

-- the count of faults of each endpoint, in their order
abbrev pub faults_of : List NamedEnd → List ℕ
faults_of ends = map (λ end. end.object.faults) ends

-- the count of faults of the endpoint at that place, or 0 where there is none
abbrev pub faults_at : List NamedEnd → ℕ → ℕ
faults_at ends place = slice_index_or (faults_of ends) place 0

-- An endpoint stands under the name, and its count of faults rose.
pub record EndRose (name : List ℕ) (before after : List NamedEnd) : Type 0 where
  pub place : ℕ
  pub there : place < length before
  pub stands : HoldsAt (λ end. stands_as name end ≡ true) after place
  pub rose : Rose (faults_at before place) (faults_at after place)

-- Which counts rose: the source's at a failed read, the sink's at a failed write, and at a failed delivery that of the
-- endpoint that stands under the name of the number. Else none rose.
abbrev pub CountsBy : List (List ℕ) → RunSeen → RunSeen → RunEnd → Type 0
CountsBy names before after end.ReadFault =
    Rose before.source.faults after.source.faults × (after.sink.faults ≡ before.sink.faults)
    × (faults_of after.ends ≡ faults_of before.ends)
CountsBy names before after end.WriteFault =
    (after.source.faults ≡ before.source.faults) × Rose before.sink.faults after.sink.faults
    × (faults_of after.ends ≡ faults_of before.ends)
CountsBy names before after (end.Endpoint endpoint) =
    (after.source.faults ≡ before.source.faults) × (after.sink.faults ≡ before.sink.faults)
    × EndRose (name_of names endpoint) before.ends after.ends
CountsBy names before after other =
    (after.source.faults ≡ before.source.faults) × (after.sink.faults ≡ before.sink.faults)
    × (faults_of after.ends ≡ faults_of before.ends)
