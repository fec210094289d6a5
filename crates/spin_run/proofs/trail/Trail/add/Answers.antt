use Rattle.std.proofs.Common.{◌≡◌, ◌++◌, ap, ◌∙◌}
use Rattle.std.proofs.lemmas.Result.{on_ok_weaker}
use Rattle.std.specs.Prelude.{count_by}
use Rattle.spin_report.specs.declared.entry.Entry.{Entry}
use Rattle.spin_report.specs.Views.{answer_steps}
use Rattle.spin_run.specs.Summaries.{is_run}
use Rattle.spin_run.specs.Trails.{kind_of}
use Rattle.spin_run.specs.declared.trail.Trail.{Trail}
use Rattle.spin_run.proofs.KeptMarks.{adds_entry, steps_sent}
use Rattle.spin_run.proofs.trail.Trail.add.Goals as goal

pub returns : goal.returns
returns c =
    let old = c.args.self.now in
    let new : Trail = record { text = c.view_text.new.out; sends = c.add_steps.new.sends; marks = c.push.new.self } in
    let entry = c.args.entry.now in
    let asked : c.entry.inside.what ≡ entry.what = ap (λ (e : Entry). e.what) c.entry.view_is in
    let steps : c.steps-steps.result.now ≡ answer_steps entry.what = c.steps-steps.ensures ∙ ap answer_steps asked in
    on_ok_weaker c.push.result
    (λ pushed. adds_entry old new entry _ c.in_ok-view_text.ensures.ok
    (c.in_ok-add_steps.ensures ∙ ap (λ s. old.sends ++ s) (steps_sent entry.what c.steps-steps.result.now steps)) pushed (record {
      place = ap (λ (e : Entry). e.place) c.entry.view_is;
      kind = c.kind_in.ensures ∙ ap kind_of asked;
      lane = ap (λ (e : Entry). e.lane) c.entry.view_is;
      line = ap (λ (e : Entry). e.line) c.entry.view_is;
      part = ap (λ (e : Entry). e.part) c.entry.view_is;
      runs = c.in_ok-runs_in.ensures ∙ ap (count_by is_run) steps;
      text_from = c.len-line.ensures;
      text_to = c.len.ensures;
      sends_from = c.len-sent.ensures;
      sends_to = c.len-2.ensures;
    })) c.push.ensures.ok
