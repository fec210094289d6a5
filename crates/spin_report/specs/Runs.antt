-- Which histories are those of a script: segment after segment.
use Rattle.std.specs.Prelude.{◌≡◌, ℕ, ◌-◌, List, [], ◌∷◌, ◌++◌, map, drop, length, Option, None, Some}
use Rattle.std.specs.Option.{option_map}
use Rattle.std.specs.List.{flat_map, filter_map, enumerate_from}
use Rattle.spin_table.specs.Setups.{SetupData}
use Rattle.spin_table.specs.States.{State, start_of}
use Rattle.spin_proto.specs.declared.reply.Step.{Step}
use Rattle.spin_proto.specs.declared.reply.Step.TheVariants as step
use Rattle.spin_proto.specs.declared.reply.Reply.{Reply}
use Rattle.spin_proto.specs.declared.reply.Reply.TheVariants as reply
use Rattle.spin_endpoint.specs.Named.{NamedEnd, stands}
use Rattle.spin_endpoint.specs.Sends.{SentSeen, name_of, all_received, all_retired, lost_to}
use Rattle.spin_script.specs.declared.script.Segment.{Segment}
use Rattle.spin_script.specs.States.{ScriptData}
use Rattle.spin_report.specs.declared.entry.What.{What}
use Rattle.spin_report.specs.declared.entry.What.TheVariants as what
use Rattle.spin_report.specs.declared.text.CaptureCounts.{CaptureCounts}
use Rattle.spin_report.specs.Histories.{Retirement, SegmentSeen, HistorySeen}
use Rattle.spin_report.specs.Segments.{asked_in, wanted_by, IsWoven}

-- how a run stands between two segments: the state of the plain dispatcher, the records of the capture that are left,
-- and the endpoints
pub record RunPoint : Type 0 where
  pub state : State
  pub left : List (List ℕ)
  pub ends : List NamedEnd

-- ---- sends

-- what a step sends, if it sends something
abbrev pub sent_by : Step → Option SentSeen
sent_by (step.Send endpoint bytes) = Some (record { endpoint = endpoint; bytes = bytes })
sent_by other = None

-- the sends of a reply's steps, in their order; a reply without steps has none
abbrev pub sends_of_reply : Reply → List SentSeen
sends_of_reply (reply.Ran answer trace jobs) = filter_map sent_by trace
sends_of_reply other = []

-- the sends of what an entry tells: a command has none, and a deed those of its reply
abbrev pub sends_of : What → List SentSeen
sends_of (what.Command command verdict) = []
sends_of (what.Deed deed answer) = sends_of_reply answer

-- the sends of a segment: of its entries in their order, and then of its jobs in theirs
abbrev pub segment_sends : SegmentSeen → List SentSeen
segment_sends seen =
    flat_map (λ entry. sends_of entry.what) seen.entries ++ flat_map (λ job. sends_of_reply job.reply) seen.jobs

-- ---- endpoints

-- the endpoints of these numbers, retired one after another, each with whether one stood under its name then
abbrev pub retirements : List (List ℕ) → List ℕ → List NamedEnd → List Retirement
retirements names [] ends = []
retirements names (number ∷ numbers) ends =
    record { endpoint = number; stood = stands (name_of names number) ends }
    ∷ retirements names numbers (all_retired names (number ∷ []) ends)

-- how many of the sends are lost, for each number of an endpoint from 0 on
abbrev pub lost_counts : List (List ℕ) → List NamedEnd → List SentSeen → List ℕ
lost_counts names ends sends = map (λ numbered. lost_to names ends sends numbered.0) (enumerate_from 0 names)

-- ---- one segment

-- The segment's endpoints are retired; then it is run, its packet lines taking the first of the records left; then its
-- sends are delivered or lost.
pub record IsSegmentRun (d : SetupData) (lanes : ℕ) (names : List (List ℕ)) (segment : Segment)
    (before : RunPoint) (seen : SegmentSeen) (after : RunPoint) : Type 0 where
  pub retired : seen.retired ≡ retirements names segment.retires before.ends
  pub start : seen.start ≡ before.state.place
  pub woven : IsWoven d lanes (asked_in segment.lines before.left) before.state after.state seen.entries seen.jobs
  pub left : after.left ≡ drop (wanted_by segment.lines) before.left
  pub lost : seen.lost ≡ lost_counts names (all_retired names segment.retires before.ends) (segment_sends seen)
  pub ends : after.ends ≡ all_received names (segment_sends seen) (all_retired names segment.retires before.ends)

-- ---- segments one after another

-- These are histories of the segments, each from where the one before it ended.
abbrev pub AreRun : ScriptData → List Segment → RunPoint → List SegmentSeen → RunPoint → Type 0
AreRun script [] before seen after = (seen ≡ []) × (after ≡ before)
AreRun script (segment ∷ segments) before seen after =
    (first : SegmentSeen) × (others : List SegmentSeen) × (next : RunPoint) × (seen ≡ first ∷ others)
    × IsSegmentRun script.setup script.lanes script.endpoints segment before first next
    × AreRun script segments next others after

-- a capture whose records all were read: these bytes each, and how many bytes stand behind them that are no record
pub record CaptureSeen : Type 0 where
  pub frames : List (List ℕ)
  pub cut : ℕ

-- the captured bytes of each record, in order; none where there is no capture
abbrev pub frames_of : Option CaptureSeen → List (List ℕ)
frames_of None = []
frames_of (Some capture) = capture.frames

-- the start of a run
abbrev pub start_with : ScriptData → List (List ℕ) → List NamedEnd → RunPoint
start_with script frames ends = record { state = start_of script.setup; left = frames; ends = ends }

-- what the end line tells of a capture of which so many records are left
abbrev pub counts_of : List (List ℕ) → CaptureSeen → CaptureCounts
counts_of left capture =
    record { records = length capture.frames; used = length capture.frames - length left; cut = capture.cut }

-- This is a history of the script with that capture and those endpoints, and so it leaves them: all segments, one after
-- another, from the start.
pub record IsRun (script : ScriptData) (capture : Option CaptureSeen) (ends : List NamedEnd)
    (history : HistorySeen) (last : RunPoint) : Type 0 where
  pub segments : AreRun script script.segments (start_with script (frames_of capture) ends) history.segments last
  pub end : history.end ≡ last.state.place
  pub capture_is : history.capture ≡ option_map (counts_of last.left) capture
