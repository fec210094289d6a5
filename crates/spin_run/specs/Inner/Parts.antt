-- What is told of a segment.
use Rattle.std.specs.Prelude.{◌≡◌, ◌≤◌, List, ℕ, ◌∷◌, ◌++◌, map, length, All}
use Rattle.spin_endpoint.specs.declared.ends.TheConstants.{MAX_ENDPOINTS}
use Rattle.spin_text.specs.Words.{ended}
use Rattle.spin_report.specs.declared.entry.Entry.{Entry}
use Rattle.spin_report.specs.Lines.{entry_line, job_line}
use Rattle.spin_report.specs.Histories.{segment_line, lost_lines}
use Rattle.spin_run.specs.declared.telling.Part.{Part}
use Rattle.spin_run.specs.Segments.{jobs_seen}
use Rattle.spin_run.specs.Trails.{AreMarksOf}
use Rattle.spin_run.specs.Inner.Lining.{counts_to}
use Rattle.spin_run.specs.Inner.Marks.{IsInTrails}
use Rattle.spin_run.specs.Inner.Writing.{joined}

-- Each job has its reply, there are no more endpoints than a script can have, and each mark has its stretches.
pub record CanBeTold (part : Part) : Type 0 where
  pub replies : length part.woven.replies ≡ length part.woven.jobs
  pub few : part.endpoints ≤ MAX_ENDPOINTS
  pub lie : All (IsInTrails part.woven.trails) part.woven.marks

-- these are its entries
abbrev pub AreEntriesOf : Part → List Entry → Type 0
AreEntriesOf part entries = AreMarksOf part.woven.trails part.woven.marks entries

-- its text in a report, where these are its entries
abbrev pub part_text : Part → List Entry → List ℕ
part_text part entries =
    joined (part.retired ++ map ended (
    segment_line part.number part.start ∷ map entry_line entries
    ++ map job_line (jobs_seen part.woven.jobs part.woven.replies)
    ++ lost_lines (counts_to part.lost part.endpoints)))
