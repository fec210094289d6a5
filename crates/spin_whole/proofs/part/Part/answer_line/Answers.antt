use Rattle.std.proofs.Common.{sym, subst}
use Rattle.std.specs.Prelude.{OnOk}
use Rattle.spin_table.specs.SetupOf.{data_of}
use Rattle.spin_whole.specs.Inner.Parts.{Answers}
use Rattle.spin_whole.proofs.LaneAsks.{asked_packets}
use Rattle.spin_whole.proofs.part.Part.answer_line.Goals as goal

pub returns-in-Packet-clause-answers : goal.returns-in-Packet-clause-answers
returns-in-Packet-clause-answers g c =
    subst (λ a. OnOk c.answer_packets.result (Answers (data_of c.args.setup.now) a c.args.self.now c.answer_packets.new.self))
    (sym (asked_packets c.args.line.now c.in-Packet.event c.in-Packet.count c.args.records.now c.in-Packet.is)) c.answer_packets.ensures.answers
