use Rattle.std.proofs.Common.{sym, subst, ◌∙◌}
use Rattle.spin_check.specs.Inner.Fronts.{IsBehind}
use Rattle.spin_check.proofs.segment.behind_tail.Goals as goal

pub returns : goal.returns
returns c = λ names ends sent are same.
    let lost = c.in_ok-lost_all.ensures names ends sent are (same ∙ sym (c.as_slice.ensures ∙ c.in_ok-append.ensures.ok.0)) in
    subst (λ t. IsBehind t c.args.report.now c.behind.result) (c.as_slice-2.ensures ∙ lost) c.behind.ensures
