-- What running one segment does.
use Rattle.std.specs.Prelude.{◌≡◌, ◌≤◌, ◌+◌, ◌++◌, ℕ, List, filter, length}
use Rattle.std.specs.Arc.{arc_value}
use Rattle.std.specs.List.{enumerate_from, flat_map}
use Rattle.spin_endpoint.specs.Named.{NamedEnd}
use Rattle.spin_endpoint.specs.Sends.{all_retired}
use Rattle.spin_table.specs.Setups.{SetupData}
use Rattle.spin_table.specs.Soundness.{IsSoundVersion}
use Rattle.spin_text.specs.Words.{text_of}
use Rattle.spin_script.specs.declared.script.Segment.{Segment}
use Rattle.spin_script.specs.Soundness.{commands_in}
use Rattle.spin_script.specs.States.{ScriptData}
use Rattle.spin_report.specs.Histories.{SegmentSeen, segment_lines, lost_lines}
use Rattle.spin_report.specs.Runs.{RunPoint, IsSegmentRun, AreRun, lost_counts, segment_sends}
use Rattle.spin_check.specs.Inner.Standings.{AreFlags}
use Rattle.spin_whole.specs.Runs.{is_received, sends_received}
use Rattle.spin_whole.specs.declared.part.Part.{Part}
use Rattle.spin_whole.specs.declared.segment.Standing.{Standing}

-- where a run stands, with these endpoints
abbrev pub point : Standing → List NamedEnd → RunPoint
point standing ends =
    record { state = (arc_value standing.version).state; left = standing.left.now; ends = ends }

-- The segment of that number was run from where the run stood with these endpoints: this is its part of the history.
-- Its text is added to the report, and what is received of its sends to those of the run.
pub record RunsOne (d : SetupData) (lanes : ℕ) (names : List (List ℕ)) (number : ℕ) (segment : Segment)
    (ends : List NamedEnd) (before after : Standing) : Type 0 where
  pub part : SegmentSeen
  pub ends_after : List NamedEnd
  pub run : IsSegmentRun d lanes names segment (point before ends) part (point after ends_after)
  pub text : after.report ≡ before.report ++ text_of (segment_lines number part)
  pub sends : after.sends ≡ before.sends
      ++ filter (is_received names (all_retired names segment.retires ends)) (segment_sends part)
  pub flags : AreFlags names ends_after after.flags.items

-- What the next segment needs: a sound version, no more commands than this one has, as many flags, and no more records
-- left than before.
pub record IsGood (d : SetupData) (segment : Segment) (before after : Standing) : Type 0 where
  pub sound : IsSoundVersion d (arc_value after.version)
  pub place : (arc_value after.version).state.place ≤ (arc_value before.version).state.place + commands_in segment.lines
  pub flags : length after.flags.items ≡ length before.flags.items
  pub left : length after.left.now ≤ length before.left.now

-- What a segment has come to is taken over: its version; and no flag and no record.
pub record KeepsRest (part : Part) (before after : Standing) : Type 0 where
  pub version : after.version ≡ part.version
  pub left : after.left ≡ before.left
  pub flags : after.flags ≡ before.flags

-- What a segment has come to is taken over: the lines of its entries and of its jobs, a line for each endpoint to which
-- sends are lost, and the sends that are received.
pub record TakesPart (names : List (List ℕ)) (ends : List NamedEnd) (part : Part) (before after : Standing)
    : Type 0 where
  pub rest : KeepsRest part before after
  pub report : after.report ≡ before.report ++ (part.text ++ (part.owed
      ++ text_of (lost_lines (lost_counts names ends (part.sends ++ part.job_sends)))))
  pub sends : after.sends ≡ before.sends ++ filter (is_received names ends) (part.sends ++ part.job_sends)

-- the lines of segments, which are numbered from 0
abbrev pub lines_of : List SegmentSeen → List (List ℕ)
lines_of parts = flat_map (λ numbered. segment_lines numbered.0 numbered.1) (enumerate_from 0 parts)

-- All segments of the script were run from where the run stood with these endpoints: these are their parts of the
-- history.
pub record RunsAll (script : ScriptData) (ends : List NamedEnd) (before after : Standing) : Type 0 where
  pub parts : List SegmentSeen
  pub ends_after : List NamedEnd
  pub run : AreRun script script.segments (point before ends) parts (point after ends_after)
  pub text : after.report ≡ before.report ++ text_of (lines_of parts)
  pub sends : after.sends ≡ before.sends ++ sends_received script.endpoints script.segments ends parts
