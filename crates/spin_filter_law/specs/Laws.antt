-- What a filter does is one run of a longer script.
use Rattle.std.specs.Prelude.{◌≡◌, ℕ, false, List, [], ◌∷◌, map, filter, Option, Some, None, Ok, IfSome}
use Rattle.std.specs.List.{flat_map, filter_map, enumerate_from}
use Rattle.spin_outside.specs.Files.{File}
use Rattle.spin_word.specs.declared.work.Work.TheVariants as work
use Rattle.spin_table.specs.declared.refusal.Verdicted.{Verdicted}
use Rattle.spin_table.specs.States.{State}
use Rattle.spin_proto.specs.declared.reply.Reply.{Reply}
use Rattle.spin_endpoint.specs.Named.{NamedEnd, stands}
use Rattle.spin_endpoint.specs.Sends.{name_of}
use Rattle.spin_script.specs.declared.script.Segment.{Segment}
use Rattle.spin_script.specs.Soundness.{lines_in, is_command_work}
use Rattle.spin_script.specs.States.{NativeData, ScriptData}
use Rattle.spin_script.specs.Language.{IsScript}
use Rattle.spin_report.specs.declared.entry.What.{What}
use Rattle.spin_report.specs.declared.entry.What.TheVariants as what
use Rattle.spin_report.specs.Histories.{SegmentSeen, HistorySeen}
use Rattle.spin_report.specs.Runs.{CaptureSeen, RunPoint, IsRun}
use Rattle.spin_filter.specs.declared.filter.Filtered.{Filtered}
use Rattle.spin_filter.specs.Filters.{IsFiltered}
use Rattle.spin_filter.specs.Histories.{PassedCapture, records_of}
use Rattle.spin_filter.specs.Passing.{Passed}
use Rattle.spin_filter.specs.Rounds.{event_at, round_of, lane_of}
use Rattle.spin_filter.specs.Sending.{OutletsAt}

-- ---- the longer script

-- a segment with the script's own command lines, in order
abbrev pub command_segment : ScriptData → Segment
command_segment script =
    record { retires = []; lines = filter (λ line. is_command_work line.work) (lines_in script.segments) }

-- a segment with one line, of that lane and by that number, which takes one record as the event
abbrev pub record_segment : ℕ → ℕ → ℕ → Segment
record_segment lane number event =
    record { retires = []; lines = record { number = number; lane = lane; work = work.Packet event 1 } ∷ [] }

-- There is such a segment for each of these events, in order, whatever the numbers of their lines.
abbrev pub AreRecordSegments : ℕ → List ℕ → List Segment → Type 0
AreRecordSegments lane [] segments = segments ≡ []
AreRecordSegments lane (event ∷ events) segments =
    (number : ℕ) × (others : List Segment) × (segments ≡ record_segment lane number event ∷ others)
    × AreRecordSegments lane events others

-- whose turn it is at each record of one capture
abbrev pub turns_at : List ℕ → List Passed → List ℕ
turns_at round passed = map (λ numbered. event_at round numbered.0) (enumerate_from 0 passed)

-- the same for captures one behind another: each begins the round anew
abbrev pub turns_in : List ℕ → List PassedCapture → List ℕ
turns_in round captures = flat_map (λ c. turns_at round c.passed) captures

-- The long script is the script but for its segments: the first has the script's own commands, and then each record of
-- the captures has one, behind a barrier of its own.
pub record IsUnrolled (script : ScriptData) (captures : List PassedCapture) (long : ScriptData) : Type 0 where
  pub records : List Segment
  pub turns : AreRecordSegments (lane_of (lines_in script.segments))
      (turns_in (round_of (lines_in script.segments)) captures) records
  pub long_is : long ≡ record script { segments = command_segment script ∷ records }

-- ---- its capture, and how its run ends

-- one capture of all records in order; how many bytes stand behind them that are no record is free
abbrev pub joined_capture : List PassedCapture → ℕ → CaptureSeen
joined_capture captures cut =
    record { frames = map (λ p. p.taken.packet.frame) (records_of captures); cut = cut }

-- a run that ends with no record left
abbrev pub used_up : State → List NamedEnd → RunPoint
used_up state ends = record { state = state; left = []; ends = ends }

-- ---- what is answered

-- the verdict on a command, and the reply to a deed
abbrev pub verdict_in : What → Option Verdicted
verdict_in (what.Command command verdict) = Some verdict
verdict_in (what.Deed asked reply) = None

abbrev pub reply_in : What → Option Reply
reply_in (what.Command command verdict) = None
reply_in (what.Deed asked reply) = Some reply

-- what a segment answers, each in order: the verdicts on its commands, the replies to its deeds, and those to its jobs
pub record Answered : Type 0 where
  pub verdicts : List Verdicted
  pub replies : List Reply
  pub jobs : List Reply

abbrev pub answered_in : SegmentSeen → Answered
answered_in seen = record {
  verdicts = filter_map (λ entry. verdict_in entry.what) seen.entries;
  replies = filter_map (λ entry. reply_in entry.what) seen.entries;
  jobs = map (λ job. job.reply) seen.jobs;
}

-- what a filter answers to its commands, and at a record
abbrev pub at_commands : List Verdicted → Answered
at_commands verdicts = record { verdicts = verdicts; replies = []; jobs = [] }

abbrev pub at_record : Passed → Answered
at_record passed = record { verdicts = []; replies = passed.reply ∷ []; jobs = passed.jobs }

-- ---- the law

-- A text that is a script was filtered with; where a capture is written, no endpoint stands under its name. Then the
-- long script has a history over the records of all captures, from the same endpoints on, that ends with the filter's
-- state and endpoints and no record left; and segment by segment it answers what the filter answers.
abbrev pub FilterIsRun : Type 0
FilterIsRun =
    (n : NativeData) (text : List ℕ) (script long : ScriptData) (capture : Option ℕ) (files : Option (List File))
    (names : List (List ℕ)) (before after : OutletsAt) (filtered : Filtered) (cut : ℕ)
    → IsScript n text (Ok script) → IfSome capture (λ number. stands (name_of script.endpoints number) before.ends ≡ false)
    → (done : IsFiltered script capture files names before after filtered) → IsUnrolled script done.captures long
    → (history : HistorySeen)
    × IsRun long (Some (joined_capture done.captures cut)) before.ends history (used_up done.state after.ends)
    × (map answered_in history.segments ≡ at_commands done.verdicts ∷ map at_record (records_of done.captures))

-- And there is such a longer script, whatever was filtered.
abbrev pub EachIsUnrolled : Type 0
EachIsUnrolled =
    (script : ScriptData) (captures : List PassedCapture) → (long : ScriptData) × IsUnrolled script captures long
