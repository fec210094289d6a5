use Rattle.std.proofs.Common.{◌≡◌, ◌++◌, List, ℕ, refl, sym, ap, subst, ◌∙◌, append_assoc}
use Rattle.std.specs.Prelude.{filter}
use Rattle.spin_endpoint.specs.Sends.{SentSeen}
use Rattle.spin_text.specs.Words.{text_of}
use Rattle.spin_report.specs.Histories.{lost_lines}
use Rattle.spin_report.specs.Runs.{lost_counts}
use Rattle.spin_check.specs.Inner.Standings.{AreFlags}
use Rattle.spin_whole.specs.Runs.{is_received}
use Rattle.spin_whole.proofs.SentCounts.{received_by_flags}
use Rattle.spin_whole.proofs.segment.Standing.take.Goals as goal

pub returns-clause-takes : goal.returns-clause-takes
returns-clause-takes c = λ names ends are.
    let old = c.args.self.now in
    let part = c.args.part in
    let flags : AreFlags names ends c.as_slice-flags.result.now = subst (AreFlags names ends) (sym c.as_slice-flags.ensures.value) are in
    let all : c.append-3.new.self ≡ part.sends ++ part.job_sends = c.in_ok-append-3.ensures.ok.0 in
    let sent : c.as_slice.result.now ≡ part.sends ++ part.job_sends = c.as_slice.ensures ∙ all in
    let front : c.append-2.new.self ≡ (old.report ++ part.text) ++ part.owed = c.in_ok-append-2.ensures.ok.0 ∙ ap (λ (t : List ℕ). t ++ part.owed) c.in_ok-append.ensures.ok.0 in
    let lost = text_of (lost_lines (lost_counts names ends (part.sends ++ part.job_sends))) in
    record {
      rest = record { version = refl; left = refl; flags = refl };
      report =
          c.in_ok-lost_all.ensures names ends flags
          ∙ (λ i. front i ++ text_of (lost_lines (lost_counts names ends (sent i))))
          ∙ append_assoc (old.report ++ part.text) part.owed lost
          ∙ append_assoc old.report part.text (part.owed ++ lost);
      sends =
          c.in_ok-append-4.ensures.ok.0
          ∙ ap (λ (l : List SentSeen). old.sends ++ l)
          (c.keep_standing.ensures ∙ received_by_flags names ends c.as_slice-flags.result.now c.append-3.new.self flags ∙ ap (filter (is_received names ends)) all);
    }
