use Rattle.std.proofs.Common.{sym, subst}
use Rattle.std.specs.Prelude.{OnOk}
use Rattle.spin_check.specs.Inner.Asks.{Adds}
use Rattle.spin_check.proofs.Queues.{asked_packets}
use Rattle.spin_check.proofs.deeds.Deeds.add_line.Goals as goal

pub returns-in-Packet : goal.returns-in-Packet
returns-in-Packet c =
    subst (λ a. OnOk c.add_packets.result (Adds a c.args.self.now c.add_packets.new.self)) (sym (asked_packets c.args.line.now c.in-Packet.event c.in-Packet.count c.args.records.now c.in-Packet.is))
    c.add_packets.ensures
