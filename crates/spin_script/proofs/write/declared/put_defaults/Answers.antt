use Rattle.std.proofs.Common.{ℕ, arith}
use Rattle.spin_table.specs.declared.event.EventDef.{EventDef}
use Rattle.spin_table.specs.SetupOf.{data_of}
use Rattle.spin_script.specs.Canonical.{default_lines}
use Rattle.spin_script.proofs.WrittenParts.{texts_more, more_written}
use Rattle.spin_script.proofs.write.declared.put_defaults.Goals as goal

pub loop-event-preserved : goal.loop-event-preserved
loop-event-preserved g c =
    more_written c.args.out.now _ _
    (texts_more (λ (p : ℕ × EventDef). default_lines p.0 p.1.first_default) 0 c.loop-event.event c.loop-event.event
    (data_of c.args.setup.now).events c.event.result.now c.event.ensures (omega arith))
    c.loop-event.invariant c.in_ok-put_default.ensures
