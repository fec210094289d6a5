-- What is left of a report.
use Rattle.std.specs.Prelude.{◌≡◌, ℕ, List, ◌++◌, Option}
use Rattle.std.specs.Option.{option_map}
use Rattle.std.specs.List.{enumerate_from, flat_map}
use Rattle.spin_endpoint.specs.Named.{NamedEnd}
use Rattle.spin_text.specs.Words.{ended, text_of}
use Rattle.spin_script.specs.declared.script.Segment.{Segment}
use Rattle.spin_script.specs.States.{ScriptData}
use Rattle.spin_report.specs.Histories.{SegmentSeen, segment_lines, end_line}
use Rattle.spin_report.specs.Runs.{RunPoint, CaptureSeen, AreRun, counts_of}
use Rattle.spin_check.specs.Inner.Segments.{Mark, standing}

-- the lines of a segment of that number
abbrev pub lines_at : ℕ × SegmentSeen → List (List ℕ)
lines_at p = segment_lines p.0 p.1

-- the text of the last line, behind the last segment
abbrev pub end_text : Option CaptureSeen → RunPoint → List ℕ
end_text capture last =
    ended (end_line last.state.place (option_map (counts_of last.left) capture))

-- the text is that of the segments that are left, from that number and standing on, and of the last line
pub record Remains (script : ScriptData) (capture : Option CaptureSeen) (segments : List Segment)
    (number : ℕ) (at : RunPoint) (text : List ℕ) : Type 0 where
  pub seen : List SegmentSeen
  pub last : RunPoint
  pub run : AreRun script segments at seen last
  pub is : text ≡ text_of (flat_map lines_at (enumerate_from number seen)) ++ end_text capture last

-- what is left of the report is that of all segments of the script
abbrev pub AreLeft : ScriptData → Option CaptureSeen → List NamedEnd → Mark → Type 0
AreLeft script capture ends mark =
    Remains script capture script.segments 0 (standing mark ends) mark.rest
