use Rattle.std.proofs.Common.{refl, sym, ap, arith}
use Rattle.spin_word.specs.declared.work.Work.TheVariants as work
use Rattle.spin_word.specs.declared.work.Deed.TheVariants as deed
use Rattle.spin_check.proofs.Queues.{packets_next}
use Rattle.spin_check.proofs.deeds.Deeds.add_packets.Goals as goal

pub loop-frame-preserved : goal.loop-frame-preserved
loop-frame-preserved c =
    let before = c.loop-frame.invariant in
    let part = before.1 in (
      packets_next c.args.line.now c.args.event c.args.records.now c.loop-frame.frame-index c.frame-item.result _ c.args.self.now c.loop-frame.self c.add.new.self
          (omega (arith, c.loop-frame-test.true)) c.frame-item.is refl refl (omega (arith, part)) (ap (λ a. work.Deed (deed.Raise c.args.event a)) c.in_ok-args.ensures)
          c.requires.lane (tt, omega (arith, c.requires.lane, c.requires.lanes)) (sym before.0.lanes) before.0 c.in_ok-add.ensures,
      omega (arith, part),
    )
