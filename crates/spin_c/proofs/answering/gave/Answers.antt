use Rattle.std.proofs.Common.{List, length, sym, subst}
use Rattle.spin_objects.specs.declared.item.Item.{Item}
use Rattle.spin_host.specs.declared.open.OpenRaise.{OpenRaise}
use Rattle.spin_c.specs.declared.moves.Upshot.TheVariants as upshot
use Rattle.spin_c.specs.declared.raising.Raising.TheVariants as raising
use Rattle.spin_c.specs.Moves.{IsLeftBy, TakesGift}
use Rattle.spin_c.specs.Raisings.{IsWellOpened}
use Rattle.spin_c.proofs.OpenAnswers.{gift_not_taken, gift_taken, kept_so}
use Rattle.spin_c.proofs.answering.gave.Goals as goal

pub gave-answered-requires : goal.gave-answered-requires
gave-answered-requires g c = record { well = rw c.setup.ensures (rw c.deref.ensures (rw c.take_back.ensures (rw c.in-Open.is at c.requires.well))) }

pub returns-in-Ok-clause-moves : goal.returns-in-Ok-clause-moves
returns-in-Ok-clause-moves g c =
    let o = c.in-Open.opened in let r = c.gave-answered.new.self in let kept = c.keep_gift.new.self in let gift = c.args.gift in
    let did = rw c.take_back.ensures at (rw c.deref.ensures at (rw c.setup.ensures at c.in-Ok.ensures)) in
    let taken = gift_taken c.in-Ok.field-0 o r gift c.gave-answered.new.gift did.fault did.told did.same in
    rw c.in-Open.is (
    subst (λ (given : List Item). TakesGift o gift (raising.Open (record o { raise = kept })) (upshot.Gave (length given))) (sym c.given.ensures)
    (subst (λ (x : OpenRaise). TakesGift o gift (raising.Open (record o { raise = x })) (upshot.Gave (length x.given))) (sym c.keep_gift.ensures) taken)
    )

pub returns-in-Err-clause-well : goal.returns-in-Err-clause-well
returns-in-Err-clause-well g c =
    let o = c.in-Open.opened in let after = c.refuse.new.raising in
    let did = rw c.take_back.ensures at c.in-Err.ensures in
    kept_so (λ x. IsWellOpened x) c.in-Err.fault o c.gave-answered.new.self after (rw c.in-Open.is at c.requires.well) did.kept
    (subst (λ (x : OpenRaise). IsLeftBy c.in-Err.fault (raising.Open (record o { raise = x })) after) c.keep_gift.ensures c.refuse.ensures.left)

pub returns-in-Err-clause-moves : goal.returns-in-Err-clause-moves
returns-in-Err-clause-moves g c =
    let o = c.in-Open.opened in let after = c.refuse.new.raising in
    let did = rw c.take_back.ensures at (rw c.deref.ensures at (rw c.setup.ensures at c.in-Err.ensures)) in
    rw c.in-Open.is (
    rw c.refuse.ensures.told (
    gift_not_taken _ c.in-Err.fault o c.gave-answered.new.self c.args.gift c.gave-answered.new.gift after did.fault
    (subst (λ (x : OpenRaise). IsLeftBy c.in-Err.fault (raising.Open (record o { raise = x })) after) c.keep_gift.ensures c.refuse.ensures.left)
    )
    )
