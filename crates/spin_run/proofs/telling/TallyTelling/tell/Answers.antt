use Rattle.std.proofs.Common.{List, Some, ap, ◌∙◌}
use Rattle.spin_run.specs.declared.trail.EntryIndex.{EntryIndex}
use Rattle.spin_run.specs.Inner.Marks.{counts_by}
use Rattle.spin_run.specs.Inner.Tallies.{plus}
use Rattle.spin_run.proofs.KeptMarks.{counts_are}
use Rattle.spin_run.proofs.telling.TallyTelling.tell.Goals as goal

pub returns-clause-counts : goal.returns-clause-counts
returns-clause-counts c = λ entries marked.
    let old = c.args.self.now in
    ap Some (c.in_ok-add_marks.ensures
    ∙ ap (λ (marks : List EntryIndex). plus old (counts_by marks)) c.as_slice.ensures
    ∙ ap (plus old) (counts_are c.args.part.woven.trails c.args.part.woven.marks entries marked))
