use Rattle.std.proofs.Common.{sym, subst, arith}
use Rattle.spin_table.specs.SetupOf.{data_of}
use Rattle.spin_seat.specs.declared.answer.SeatFault.TheVariants as fault
use Rattle.spin_report.specs.Segments.{asked_at}
use Rattle.spin_run.specs.Inner.Answering.{Comes}
use Rattle.spin_run.proofs.AskedOfLane.{packet_count}
use Rattle.spin_run.proofs.LaneAnswers.{err_is}
use Rattle.spin_run.proofs.LaneProgress.{deed_short, line_short}
use Rattle.spin_run.proofs.lane.Lane.answer_line.Goals as goal

pub answer_packets-requires-clause-few : goal.answer_packets-requires-clause-few
answer_packets-requires-clause-few g c κs within =
    let few = c.requires.few in
    let count = packet_count c.args.line.now c.args.records.now c.in-Packet.event c.in-Packet.count c.in-Packet.is in
    omega (arith, few, count)

pub returns-in_err-answer_deed-in-Deed-clause-comes : goal.returns-in_err-answer_deed-in-Deed-clause-comes
returns-in_err-answer_deed-in-Deed-clause-comes g c =
    let d = data_of c.args.by.now.hub.now.setup in
    let line = c.args.line.now in
    let old = c.args.self.now in
    let new = c.answer_deed.new.self in
    let is = err_is c.from_residual.result fault.NoMemory c.from_residual.ensures.1 in
    subst (λ r. Comes d (asked_at line c.args.records.now) old r new) (sym is) (deed_short d line c.args.records.now _ old new c.in-Deed.is)

pub returns-in_err-answer_packets-in-Packet-clause-comes : goal.returns-in_err-answer_packets-in-Packet-clause-comes
returns-in_err-answer_packets-in-Packet-clause-comes g c =
    let d = data_of c.args.by.now.hub.now.setup in
    let line = c.args.line.now in
    let old = c.args.self.now in
    let new = c.answer_packets.new.self in
    let is = err_is c.from_residual-in_err-answer_packets-in-Packet.result fault.NoMemory c.from_residual-in_err-answer_packets-in-Packet.ensures.1 in
    subst (λ r. Comes d (asked_at line c.args.records.now) old r new) (sym is)
    (line_short d line c.args.records.now old.seat.pen.lane c.in-Packet.event c.in-Packet.count old new c.in-Packet.is c.requires.lane c.in_err-answer_packets-in-Packet.ensures.err)
