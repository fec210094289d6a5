use Rattle.std.proofs.Common.{arith}
use Rattle.spin_table.specs.SetupOf.{data_of}
use Rattle.spin_script.specs.Canonical.{event_line}
use Rattle.spin_script.proofs.WrittenParts.{lines_more, more_written}
use Rattle.spin_script.proofs.write.declared.put_events.Goals as goal

pub loop-event-preserved : goal.loop-event-preserved
loop-event-preserved g c =
    more_written c.args.out.now _ _
    (lines_more event_line 0 c.loop-event.event c.loop-event.event (data_of c.args.setup.now).events c.event.result.now c.event.ensures (omega arith))
    c.loop-event.invariant c.in_ok-put_event.ensures
