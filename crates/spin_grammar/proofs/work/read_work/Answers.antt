use Rattle.std.proofs.Common.{refl}
use Rattle.std.proofs.lemmas.Result.{err_from_is_err_and}
use Rattle.spin_grammar.specs.Forms.{Raise, Later, Packet}
use Rattle.spin_grammar.proofs.ReadingParts.{leads_then, fails_then, gives_behind}
use Rattle.spin_grammar.proofs.work.read_work.Goals as goal

pub returns-in-Install-clause-gives : goal.returns-in-Install-clause-gives
returns-in-Install-clause-gives c = gives_behind _ _ _ _ _ _ _ _ (rw c.in-Install.is at c.in_ok-deed_word.ensures.opens) c.read_install.ensures.gives

pub returns-in-Remove-clause-gives : goal.returns-in-Remove-clause-gives
returns-in-Remove-clause-gives c = gives_behind _ _ _ _ _ _ _ _ (rw c.in-Remove.is at c.in_ok-deed_word.ensures.opens) c.read_remove.ensures.gives

pub returns-in-Replace-clause-gives : goal.returns-in-Replace-clause-gives
returns-in-Replace-clause-gives c = gives_behind _ _ _ _ _ _ _ _ (rw c.in-Replace.is at c.in_ok-deed_word.ensures.opens) c.read_replace.ensures.gives

pub returns-in-Default-clause-gives : goal.returns-in-Default-clause-gives
returns-in-Default-clause-gives c = gives_behind _ _ _ _ _ _ _ _ (rw c.in-Default.is at c.in_ok-deed_word.ensures.opens) c.read_default.ensures.gives

pub returns-in-NoDefault-clause-gives : goal.returns-in-NoDefault-clause-gives
returns-in-NoDefault-clause-gives c = gives_behind _ _ _ _ _ _ _ _ (rw c.in-NoDefault.is at c.in_ok-deed_word.ensures.opens) c.read_nodefault.ensures.gives

pub returns-in_err-deed_word-clause-gives : goal.returns-in_err-deed_word-clause-gives
returns-in_err-deed_word-clause-gives c =
    let p = err_from_is_err_and c.from_residual.result c.from_residual.ensures.1 in
    rw (p.1, p.2) c.in_err-deed_word.ensures.opens

pub returns-in_err-event-in-Raise-clause-gives : goal.returns-in_err-event-in-Raise-clause-gives
returns-in_err-event-in-Raise-clause-gives c =
    let p = err_from_is_err_and c.from_residual-in_err-event-in-Raise.result c.from_residual-in_err-event-in-Raise.ensures.1 in
    rw (p.1, p.2) (fails_then _ _ _ _ _ _ (rw c.in-Raise.is at c.in_ok-deed_word.ensures.opens) c.in_err-event-in-Raise.ensures)

pub returns-in_err-event-in-Later-clause-gives : goal.returns-in_err-event-in-Later-clause-gives
returns-in_err-event-in-Later-clause-gives c =
    let p = err_from_is_err_and c.from_residual-in_err-event-in-Later.result c.from_residual-in_err-event-in-Later.ensures.1 in
    rw (p.1, p.2) (fails_then _ _ _ _ _ _ (rw c.in-Later.is at c.in_ok-deed_word.ensures.opens) c.in_err-event-in-Later.ensures)

pub returns-in_err-event-in-Packet-clause-gives : goal.returns-in_err-event-in-Packet-clause-gives
returns-in_err-event-in-Packet-clause-gives c =
    let p = err_from_is_err_and c.from_residual-in_err-event-in-Packet.result c.from_residual-in_err-event-in-Packet.ensures.1 in
    rw (p.1, p.2) (fails_then _ _ _ _ _ _ (rw c.in-Packet.is at c.in_ok-deed_word.ensures.opens) c.in_err-event-in-Packet.ensures)

pub returns-in_ok-event-in-Raise-clause-gives : goal.returns-in_ok-event-in-Raise-clause-gives
returns-in_ok-event-in-Raise-clause-gives c = (
  Raise c.in_ok-event-in-Raise.event c.in_ok-event-in-Raise.args,
  leads_then _ _ _ _ _ _ _ _ (rw c.in-Raise.is at c.in_ok-deed_word.ensures.opens) c.in_ok-event-in-Raise.ensures,
  refl,
)

pub returns-in_ok-event-in-Later-clause-gives : goal.returns-in_ok-event-in-Later-clause-gives
returns-in_ok-event-in-Later-clause-gives c = (
  Later c.in_ok-event-in-Later.event c.in_ok-event-in-Later.args,
  leads_then _ _ _ _ _ _ _ _ (rw c.in-Later.is at c.in_ok-deed_word.ensures.opens) c.in_ok-event-in-Later.ensures,
  refl,
)

pub returns-in_ok-event-in-Packet-clause-gives : goal.returns-in_ok-event-in-Packet-clause-gives
returns-in_ok-event-in-Packet-clause-gives c = (
  Packet c.in_ok-event-in-Packet.event c.in_ok-event-in-Packet.count,
  leads_then _ _ _ _ _ _ _ _ (rw c.in-Packet.is at c.in_ok-deed_word.ensures.opens) c.in_ok-event-in-Packet.ensures,
  refl,
)
