use Rattle.std.proofs.Common.{◌++◌, List, refl, ap, ◌∙◌}
use Rattle.std.specs.List.{filter_map}
use Rattle.std.proofs.lemmas.Result.{on_ok_weaker}
use Rattle.spin_endpoint.specs.Sends.{SentSeen}
use Rattle.spin_table.specs.SetupOf.{data_of}
use Rattle.spin_report.specs.declared.entry.Entry.{Entry}
use Rattle.spin_report.specs.Runs.{sent_by, sends_of}
use Rattle.spin_whole.specs.Inner.Parts.{DidJobs}
use Rattle.spin_whole.specs.declared.part.Part.{Part}
use Rattle.spin_whole.specs.Inner.Parts.{state_of}
use Rattle.spin_whole.proofs.JobSteps.{answer_sends}
use Rattle.spin_whole.proofs.part.Part.add.Goals as goal

pub returns : goal.returns
returns g c =
    let d = data_of c.args.setup.now in
    let old = c.args.self.now in
    let entry = c.args.entry.now in
    let new : Part = record { version = old.version; text = c.view_text.new.out; sends = c.add_steps.new.sends; owed = c.do_jobs.new.out; job_sends = c.do_jobs.new.sends } in
    on_ok_weaker c.do_jobs.result
    (λ (did : DidJobs d (state_of old) entry (old.owed, old.job_sends) (new.owed, new.job_sends)). record {
      version = refl;
      text = c.in_ok-view_text.ensures.ok;
      sends = c.in_ok-add_steps.ensures ∙ ap (λ (l : List SentSeen). old.sends ++ l) (ap (filter_map sent_by) c.steps.ensures ∙ answer_sends c.entry.inside.what ∙ ap (λ (e : Entry). sends_of e.what) c.entry.view_is);
      jobs = did;
    }) c.do_jobs.ensures
