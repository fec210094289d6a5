use Rattle.std.proofs.Common.{List, length, sym, subst}
use Rattle.spin_objects.specs.declared.item.Item.{Item}
use Rattle.spin_c.specs.declared.moves.Upshot.TheVariants as upshot
use Rattle.spin_c.specs.declared.raising.Raising.TheVariants as raising
use Rattle.spin_c.specs.Moves.{DoesAct}
use Rattle.spin_c.specs.Raisings.{IsWellOpened}
use Rattle.spin_c.proofs.OpenAnswers.{act_done, act_not_done, kept_so}
use Rattle.spin_c.proofs.answering.do_act.Goals as goal

pub do_act-requires-clause-well : goal.do_act-requires-clause-well
do_act-requires-clause-well g c = rw c.setup.ensures (rw c.deref.ensures (rw c.in-Open.is at c.requires.well))

pub returns-in-Ok-clause-moves : goal.returns-in-Ok-clause-moves
returns-in-Ok-clause-moves g c =
    let o = c.in-Open.opened in let r = c.do_act.new.self in
    let did = rw c.deref.ensures at (rw c.setup.ensures at c.in-Ok.ensures) in
    rw c.in-Open.is (
    subst (λ (given : List Item). DoesAct o (raising.Open (record o { raise = r })) (upshot.Gave (length given))) (sym c.given.ensures)
    (act_done c.in-Ok.field-0 o r did.fault did.told did.ups did.same)
    )

pub returns-in-Err-clause-well : goal.returns-in-Err-clause-well
returns-in-Err-clause-well g c =
    let o = c.in-Open.opened in
    kept_so (λ x. IsWellOpened x) c.in-Err.fault o c.do_act.new.self c.refuse.new.raising (rw c.in-Open.is at c.requires.well) c.in-Err.ensures.kept c.refuse.ensures.left

pub returns-in-Err-clause-moves : goal.returns-in-Err-clause-moves
returns-in-Err-clause-moves g c =
    let o = c.in-Open.opened in
    let did = rw c.deref.ensures at (rw c.setup.ensures at c.in-Err.ensures) in
    rw c.in-Open.is (
    rw c.refuse.ensures.told (act_not_done _ c.in-Err.fault o c.do_act.new.self c.refuse.new.raising did.fault c.refuse.ensures.left)
    )
