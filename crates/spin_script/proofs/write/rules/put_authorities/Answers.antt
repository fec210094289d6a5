use Rattle.std.proofs.Common.{◌≡◌, ◌++◌, ℕ, true, sym, subst, arith}
use Rattle.spin_objects.specs.Units.{policies_of}
use Rattle.spin_table.specs.declared.event.EventDef.{EventDef}
use Rattle.spin_table.specs.Setups.{has_authority}
use Rattle.spin_table.specs.SetupOf.{data_of}
use Rattle.spin_table.proofs.ImposedGuards.{authority_of_setup}
use Rattle.spin_script.specs.States.{natives_seen}
use Rattle.spin_script.specs.Canonical.{text_of_lines, authority_lines}
use Rattle.spin_script.proofs.WrittenParts.{texts_more, more_written}
use Rattle.spin_script.proofs.write.rules.put_authorities.Goals as goal

pub put_authority-requires : goal.put_authority-requires
put_authority-requires g c =
    let there = authority_of_setup (data_of c.args.setup.now) c.loop-event.event c.event-def.result.now c.args.setup.now.sound c.event-def.ensures in
    subst (λ ns. has_authority (policies_of ns) c.event-def.result.now.authority ≡ true) (sym c.natives.ensures)
    (subst (λ cat. has_authority (policies_of cat.natives) c.event-def.result.now.authority ≡ true) (sym c.catalogue.ensures) there)

pub loop-event-preserved : goal.loop-event-preserved
loop-event-preserved g c =
    let this =
    subst (λ cat. c.put_authority.new.out ≡ c.loop-event.out ++ text_of_lines (authority_lines (natives_seen cat.natives) c.loop-event.event c.event-def.result.now.authority)) c.catalogue.ensures
    (subst (λ ns. c.put_authority.new.out ≡ c.loop-event.out ++ text_of_lines (authority_lines (natives_seen ns) c.loop-event.event c.event-def.result.now.authority))
    c.natives.ensures c.in_ok-put_authority.ensures) in
    more_written c.args.out.now _ _
    (texts_more (λ (p : ℕ × EventDef). authority_lines (natives_seen c.args.setup.now.catalogue.natives) p.0 p.1.authority) 0 c.loop-event.event c.loop-event.event
    (data_of c.args.setup.now).events c.event-def.result.now c.event-def.ensures (omega arith))
    c.loop-event.invariant this
