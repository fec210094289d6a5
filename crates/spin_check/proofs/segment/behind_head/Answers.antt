use Rattle.std.proofs.Common.{subst}
use Rattle.spin_check.specs.Inner.Fronts.{IsBehind}
use Rattle.spin_check.proofs.SegmentLemmas.{head_is}
use Rattle.spin_check.proofs.segment.behind_head.Goals as goal

pub returns : goal.returns
returns c = λ names ends are.
    let retired = c.in_ok-retire_all.ensures names ends are in (
      subst (λ h. IsBehind h c.args.report.now c.behind.result)
          (head_is names ends c.args.number c.args.place c.args.retires.now c.new-head.result c.retire_all.new.out c.segment_text.new.out c.as_slice.result.now c.new-head.ensures retired.0
          c.in_ok-segment_text.ensures.ok c.as_slice.ensures) c.behind.ensures,
      retired.1,
    )
