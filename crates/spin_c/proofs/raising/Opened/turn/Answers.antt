use Rattle.std.proofs.Common.{◌∙◌, ap, sym, subst}
use Rattle.spin_host.specs.declared.open.OpenRaise.{OpenRaise}
use Rattle.spin_c.specs.declared.raising.Raising.TheVariants as raising
use Rattle.spin_c.specs.Moves.{OpensWithin}
use Rattle.spin_c.specs.Raisings.{IsWellOpened}
use Rattle.spin_c.proofs.raising.Opened.turn.Goals as goal

pub returns-in-Within-clause-moves : goal.returns-in-Within-clause-moves
returns-in-Within-clause-moves g c =
    let o = c.args.self.now in
    rw c.in-Within.is (
      c.within.ensures.party,
      subst (λ (r : OpenRaise). OpensWithin (record o { raise = r }) c.in-Within.event c.in-Within.args c.within.new.self.raise c.within.result)
          c.take_back-in-Within.ensures c.within.ensures.opens,
    )

pub returns-in-Argument-clause-well : goal.returns-in-Argument-clause-well
returns-in-Argument-clause-well g c = subst (λ o. IsWellOpened o) (sym c.argument.ensures.same) c.requires.well

pub returns-in-GivenBytes-clause-well : goal.returns-in-GivenBytes-clause-well
returns-in-GivenBytes-clause-well g c = subst (λ o. IsWellOpened o) (sym c.hand_given.ensures.same) c.requires.well

pub returns-in-Miss-clause-moves : goal.returns-in-Miss-clause-moves
returns-in-Miss-clause-moves g c =
    let left = ap (λ (r : OpenRaise). record c.is_due-due.new.self { raise = r }) c.take_back-in-Miss.ensures ∙ c.is_due-due.ensures.same in
    rw c.in-Miss.is (ap raising.Open left, record { due = c.is_due-due.result; due_is = c.is_due-due.ensures.due; told_is = c.missed_if.ensures })

pub returns-in-Miss-clause-well : goal.returns-in-Miss-clause-well
returns-in-Miss-clause-well g c =
    let left = ap (λ (r : OpenRaise). record c.is_due-due.new.self { raise = r }) c.take_back-in-Miss.ensures ∙ c.is_due-due.ensures.same in
    subst (λ o. IsWellOpened o) (sym left) c.requires.well
