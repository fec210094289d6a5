use Rattle.std.proofs.Common.{get_or, arith}
use Rattle.spin_run.proofs.KeptEntries.{takes_more}
use Rattle.spin_run.proofs.lanes.Lanes.gather_entries.Goals as goal

pub loop-lane-preserved : goal.loop-lane-preserved
loop-lane-preserved c =
    let own = get_or c.loop-lane.lane-items c.loop-lane.lane-index c.lane-item.result in
    takes_more c.args.self.now c.loop-lane.lane-items c.loop-lane.lane-index c.loop-lane.all c.take_kept.new.all c.lane-item.result _
    (omega (arith, c.loop-lane-test.true, c.loop-lane.invariant.count)) c.loop-lane.invariant
    (λ h. record own { entries = c.in_ok-take_kept.ensures.1 h }) c.in_ok-take_kept.ensures.0
