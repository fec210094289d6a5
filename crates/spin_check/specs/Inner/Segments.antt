-- One segment of a report.
use Rattle.std.specs.Prelude.{◌≡◌, ◌≤◌, ◌+◌, ℕ, List, ◌++◌, map, Bool, true, false, Option, None, Some, length, ⊤}
use Rattle.spin_code.specs.declared.test.Test.{Test}
use Rattle.spin_table.specs.Setups.{SetupData}
use Rattle.spin_table.specs.States.{State, VersionValue}
use Rattle.spin_table.specs.Soundness.{IsSoundVersion}
use Rattle.spin_endpoint.specs.Named.{NamedEnd}
use Rattle.spin_script.specs.declared.script.Segment.{Segment}
use Rattle.spin_text.specs.Words.{ended, text_of}
use Rattle.spin_report.specs.Histories.{Retirement, SegmentSeen, retire_line, segment_line, segment_lines}
use Rattle.spin_report.specs.Runs.{RunPoint, IsSegmentRun}
use Rattle.spin_script.specs.Soundness.{commands_in}
use Rattle.spin_check.specs.Inner.Standings.{AreFlags}

-- the text of what stands before a segment's entries
abbrev pub head_text : ℕ → ℕ → List Retirement → List ℕ
head_text number start retired = text_of (map retire_line retired) ++ ended (segment_line number start)

-- Where a check stands between two segments: the state and the tests of its version, the records of the capture that
-- are left, which endpoints stand, and what is left of the report.
pub record Mark : Type 0 where
  pub state : State
  pub tests : List Test
  pub left : List (List ℕ)
  pub flags : List Bool
  pub rest : List ℕ

-- its version
abbrev pub version_of : Mark → VersionValue
version_of mark = record { state = mark.state; tests = mark.tests }

abbrev pub standing : Mark → List NamedEnd → RunPoint
standing mark ends = record { state = mark.state; left = mark.left; ends = ends }

-- The segment's part of the report is what is left of the report begins with.
pub record IsPart (d : SetupData) (lanes : ℕ) (names : List (List ℕ)) (number : ℕ)
    (segment : Segment) (before : RunPoint) (rest : List ℕ) (seen : SegmentSeen) (after : RunPoint)
    (more : List ℕ) : Type 0 where
  pub run : IsSegmentRun d lanes names segment before seen after
  pub text : rest ≡ text_of (segment_lines number seen) ++ more

-- The check went over the segment, whose part of the report can be no other.
pub record Passes (d : SetupData) (lanes : ℕ) (names : List (List ℕ)) (number : ℕ)
    (segment : Segment) (mark : Mark) (ends : List NamedEnd) (next : Mark) : Type 0 where
  pub seen : SegmentSeen
  pub ends_after : List NamedEnd
  pub part : IsPart d lanes names number segment (standing mark ends) mark.rest seen
      (standing next ends_after) next.rest
  pub flags : AreFlags names ends_after next.flags
  pub only : (s : SegmentSeen) (after : RunPoint) (more : List ℕ)
      → IsPart d lanes names number segment (standing mark ends) mark.rest s after more
      → (after ≡ standing next ends_after) × (s ≡ seen) × (more ≡ next.rest)

-- The check goes over the segment; none where the report goes on with no history of it.
abbrev pub Goes : SetupData → ℕ → List (List ℕ) → ℕ → Segment → Mark → List NamedEnd → Option Mark → Type 0
Goes d lanes names number segment mark ends None =
    (s : SegmentSeen) (after : RunPoint) (more : List ℕ)
    → IsPart d lanes names number segment (standing mark ends) mark.rest s after more → ⊥
Goes d lanes names number segment mark ends (Some next) =
    Passes d lanes names number segment mark ends next

-- What the next segment needs: a sound version, no more commands than this one has, the same endpoints, and no more
-- records left than before.
abbrev pub IsGoodMark : SetupData → Segment → Mark → Option Mark → Type 0
IsGoodMark d segment mark None = ⊤
IsGoodMark d segment mark (Some next) =
    IsSoundVersion d (version_of next) × (next.state.place ≤ mark.state.place + commands_in segment.lines)
    × (length next.flags ≡ length mark.flags)
    × (length next.left ≤ length mark.left)

-- the mark that a check came to, if it went over the segment
abbrev pub gone_to : Bool → Mark → Option Mark
gone_to true mark = Some mark
gone_to false mark = None
