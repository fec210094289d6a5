use Rattle.std.proofs.Common.{◌∷◌, ◌++◌, map, ◌∙◌}
use Rattle.std.specs.List.{flat_map}
use Rattle.spin_text.specs.Words.{ended}
use Rattle.spin_report.specs.Histories.{segment_line, lost_lines}
use Rattle.spin_report.specs.Lines.{entry_line, job_line}
use Rattle.spin_run.specs.Segments.{jobs_seen}
use Rattle.spin_run.specs.Inner.Lining.{counts_to}
use Rattle.spin_run.specs.Inner.Marks.{line_in}
use Rattle.spin_run.specs.Inner.Writing.{joined}
use Rattle.spin_run.proofs.JoinedTexts.{pieces_are}
use Rattle.spin_run.proofs.KeptMarks.{lines_are}
use Rattle.spin_run.proofs.telling.part_pieces.Goals as goal

pub returns : goal.returns
returns c = λ marked_entries marked.
    let head = segment_line c.args.part.number c.args.part.start in
    let entries = map entry_line marked_entries in
    let jobs = map job_line (jobs_seen c.as_slice-3.result.now c.as_slice-4.result.now) in
    let lost = lost_lines (counts_to c.args.part.lost c.args.part.endpoints) in
    pieces_are c.args.part.retired c.add_segment.new.lines c.push.new.self head entries jobs lost c.put_entries.new.text c.put_jobs.new.text c.put_lost.new.text
    c.in_ok-add_segment.ensures (c.in_ok-put_entries.ensures
    ∙ (λ i. c.in_ok-text.ensures i ++ flat_map (line_in (c.as_slice.ensures i)) (c.as_slice-2.ensures i))
    ∙ lines_are c.args.part.woven.trails c.args.part.woven.marks marked_entries marked) c.in_ok-put_jobs.ensures c.in_ok-put_lost.ensures c.in_ok-push.ensures.ok
    ∙ (λ i. joined (c.args.part.retired ++ map ended (head ∷ entries ++ map job_line (jobs_seen (c.as_slice-3.ensures i) (c.as_slice-4.ensures i)) ++ lost)))
