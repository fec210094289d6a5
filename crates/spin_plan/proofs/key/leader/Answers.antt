use Rattle.std.specs.Option.{option_map}
use Rattle.spin_plan.specs.Inner.Reads.{is_read}
use Rattle.spin_plan.specs.Planned.{expr_of}
use Rattle.spin_plan.proofs.LeaderLemmas.{noted_step, passes_at}
use Rattle.spin_plan.proofs.key.leader.Goals as goal

pub loop-e-preserved : goal.loop-e-preserved
loop-e-preserved c =
    let read = passes_at is_read c.args.reads.now c.loop-e.e-index c.e-item.result c.requires c.loop-e-test.true c.e-item.is in
    noted_step c.args.reads.now c.loop-e.e-index c.loop-e.counts c.count.new.counts (option_map expr_of c.loop-e.lead.leader)
    (option_map expr_of c.lead_after-lead.result.leader) c.loop-e.lead.times c.lead_after-lead.result.times c.in_ok-times.times c.e-item.result
    read c.loop-e-test.true c.e-item.is c.loop-e.invariant c.in_ok-times.ensures.counts c.in_ok-times.ensures.result c.lead_after-lead.ensures.ahead c.lead_after-lead.ensures.behind
