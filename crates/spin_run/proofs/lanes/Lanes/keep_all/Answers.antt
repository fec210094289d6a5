use Rattle.std.proofs.Common.{get_or, arith}
use Rattle.std.specs.Prelude.{Some}
use Rattle.spin_run.proofs.KeptEntries.{marks_more}
use Rattle.spin_run.proofs.lanes.Lanes.keep_all.Goals as goal

pub loop-lane-preserved : goal.loop-lane-preserved
loop-lane-preserved c =
    let own = get_or c.loop-lane.lane-items c.loop-lane.lane-index c.lane-item.result in
    marks_more c.args.self.now c.loop-lane.lane-items c.loop-lane.lane-index c.lane-item.result _
    (omega (arith, c.loop-lane-test.true, c.loop-lane.invariant.count)) c.loop-lane.invariant (λ h. record own { entries = Some (c.new.ensures h) })
