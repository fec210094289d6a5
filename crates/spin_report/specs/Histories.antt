-- The report of a whole history: its lines, and its text.
use Rattle.std.specs.Prelude.{ℕ, Bool, not, ◌==◌, if◌then◌else◌, List, [], ◌∷◌}
use Rattle.std.specs.Prelude.{◌++◌, map, filter, Option, Some, None, decimal, codes}
use Rattle.std.specs.List.{flat_map, enumerate_from}
use Rattle.spin_report.specs.declared.entry.Entry.{Entry}
use Rattle.spin_report.specs.declared.text.CaptureCounts.{CaptureCounts}
use Rattle.spin_text.specs.Words.{Word, line_of, text_of}
use Rattle.spin_report.specs.Lines.{JobSeen, entry_line, job_line}

-- an endpoint that is retired, and whether one stood under its name
pub record Retirement : Type 0 where
  pub endpoint : ℕ
  pub stood : Bool

-- a segment: what is retired before it, the log's length at its start, its entries in the order of the history, its
-- jobs in the order of their entries, and how many of its sends were lost, by the number of the endpoint from 0 on
pub record SegmentSeen : Type 0 where
  pub retired : List Retirement
  pub start : ℕ
  pub entries : List Entry
  pub jobs : List JobSeen
  pub lost : List ℕ

-- a history: its segments, the log's length at its end, and its capture, if it has one
pub record HistorySeen : Type 0 where
  pub segments : List SegmentSeen
  pub end : ℕ
  pub capture : Option CaptureCounts

-- the first line of every report, `report 1`
abbrev pub first_line : List ℕ
first_line = codes "report 1"

-- the line of an endpoint that is retired: its number, with `ok` where one stood under its name, else `unknown`
abbrev pub retire_line : Retirement → List ℕ
retire_line r = line_of (codes "retire" ∷ decimal r.endpoint ∷ (if r.stood then codes "ok" else codes "unknown") ∷ [])

-- the line of a segment: its number, and the log's length at its start
abbrev pub segment_line : ℕ → ℕ → List ℕ
segment_line number start = line_of (codes "segment" ∷ decimal number ∷ codes "at" ∷ decimal start ∷ [])

-- the line of what was lost: an endpoint's number, and how many sends to it were lost
abbrev pub lost_line : ℕ × ℕ → List ℕ
lost_line lost = line_of (codes "lost" ∷ decimal lost.0 ∷ decimal lost.1 ∷ [])

-- the endpoints to which sends were lost, by number, each with how many
abbrev pub losses : List ℕ → List (ℕ × ℕ)
losses counts = filter (λ lost. not (lost.1 == 0)) (enumerate_from 0 counts)

-- a line for each endpoint to which sends were lost, by number; none for the others
abbrev pub lost_lines : List ℕ → List (List ℕ)
lost_lines counts = map lost_line (losses counts)

-- the lines of the segment of that number
abbrev pub segment_lines : ℕ → SegmentSeen → List (List ℕ)
segment_lines number s =
    map retire_line s.retired ++ segment_line number s.start ∷ []
    ++ map entry_line s.entries ++ map job_line s.jobs ++ lost_lines s.lost

-- what became of a capture
abbrev pub capture_words : Option CaptureCounts → List Word
capture_words None = []
capture_words (Some c) =
    codes "records" ∷ decimal c.records ∷ codes "used" ∷ decimal c.used ∷ codes "cut" ∷ decimal c.cut ∷ []

-- the last line of a report: the log's length at the end, and what became of a capture
abbrev pub end_line : ℕ → Option CaptureCounts → List ℕ
end_line length capture = line_of (codes "end" ∷ decimal length ∷ capture_words capture)

-- the lines of a report up to these segments, which are numbered from 0
abbrev pub front_lines : List SegmentSeen → List (List ℕ)
front_lines segments =
    first_line ∷ flat_map (λ numbered. segment_lines numbered.0 numbered.1) (enumerate_from 0 segments)

-- the text of a report up to these segments, each line ended by a line feed
abbrev pub front_text : List SegmentSeen → List ℕ
front_text segments = text_of (front_lines segments)

-- the lines of a history's report
abbrev pub report_lines : HistorySeen → List (List ℕ)
report_lines h = front_lines h.segments ++ end_line h.end h.capture ∷ []

-- the text of a history's report, each line ended by a line feed
abbrev pub report_text : HistorySeen → List ℕ
report_text h = text_of (report_lines h)

-- all entries, segment after segment
abbrev pub entries_of : HistorySeen → List Entry
entries_of h = flat_map (λ s. s.entries) h.segments
