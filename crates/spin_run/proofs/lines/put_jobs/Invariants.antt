use Rattle.std.proofs.Common.{◌≡◌, ◌++◌, map, take}
use Rattle.spin_text.specs.Words.{text_of}
use Rattle.spin_report.specs.Lines.{job_line}
use Rattle.spin_run.specs.Segments.{jobs_seen}
use Rattle.spin_run.proofs.lines.put_jobs.Given as goal

abbrev pub invariant-loop-at : goal.invariant-loop-at
invariant-loop-at l = l.text ≡ l.fn.text ++ text_of (map job_line (take l.at (jobs_seen l.jobs l.replies)))
