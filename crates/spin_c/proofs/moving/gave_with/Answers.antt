use Rattle.spin_c.proofs.OpenMoves.{fitting, lends, lent_open, unfit, unlent}
use Rattle.spin_c.proofs.moving.gave_with.Goals as goal

pub returns-in_default : goal.returns-in_default
returns-in_default c = unlent _ _ c.args.raising.now.kept c.move_on.new.raising.kept _ c.move_on.result c.move_on.ensures c.in_default.not-Lent

pub returns-in-Ok : goal.returns-in-Ok
returns-in-Ok c =
    let kept = c.args.raising.now.kept in let lent = c.move_on.new.raising.kept in
    fitting _ _ kept lent c.move_on-in-Ok.new.raising.kept _ c.move_on-in-Ok.result c.in-Ok.ensures.0
    (lent_open kept lent c.move_on.result c.in-Lent.spare c.move_on.ensures c.in-Lent.is) (lends kept lent c.move_on.result c.move_on.ensures).0
    (rw c.in-Ok.ensures.1 at c.move_on-in-Ok.ensures)

pub returns-in-Err : goal.returns-in-Err
returns-in-Err c =
    let kept = c.args.raising.now.kept in let lent = c.move_on.new.raising.kept in
    unfit _ _ kept lent c.unasked.new.raising.kept _ c.in-Err.why c.unasked.result c.in-Err.ensures
    (lent_open kept lent c.move_on.result c.in-Lent.spare c.move_on.ensures c.in-Lent.is) (lends kept lent c.move_on.result c.move_on.ensures).0 c.unasked.ensures
