use Rattle.std.proofs.Common.{inl}
use Rattle.spin_c.specs.declared.ask.Ask.TheVariants as asked
use Rattle.spin_c.proofs.Ungiven.{ungiven}
use Rattle.spin_c.proofs.spin_later.Goals as goal

pub returns-in-Ok : goal.returns-in-Ok
returns-in-Ok c = inl (c.in-Ok.ensures.0, rw c.in-Ok.ensures.1 at c.ask_of.ensures)

pub returns-in-Err : goal.returns-in-Err
returns-in-Err c =
    ungiven c.args.lane.now.kept (asked.Later c.args.event) c.args.bytes.now c.args.args.now c.in-Err.why c.tell.result c.tell.new.answer (λ args. tt) c.in-Err.ensures
    c.tell.ensures.number c.tell.ensures.answer
