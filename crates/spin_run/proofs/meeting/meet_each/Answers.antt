use Rattle.std.proofs.Common.{◌∙◌, refl, arith}
use Rattle.spin_table.specs.SetupOf.{data_of}
use Rattle.spin_run.proofs.LaneMeetings.{round_begins, round_more}
use Rattle.spin_run.proofs.meeting.meet_each.Goals as goal

pub loop-k-init : goal.loop-k-init
loop-k-init g c = (round_begins (data_of c.args.hub.now.setup) c.args.hub.now.log.id c.args.lanes.now c.requires.seats c.requires.first, refl)

pub loop-k-preserved : goal.loop-k-preserved
loop-k-preserved g c =
    let pos = c.loop-k.auto.k in
    let lt = c.loop-k-test.true in (
      round_more (data_of c.args.hub.now.setup) c.args.lanes.now c.loop-k.lanes c.meet_first.new.lanes c.loop-k.k (omega (arith, pos)) (omega (arith, lt)) c.loop-k.invariant.0
          c.in_ok-meet_first.ensures.met,
      c.meet_first.ensures.stops ∙ c.loop-k.invariant.1,
    )
