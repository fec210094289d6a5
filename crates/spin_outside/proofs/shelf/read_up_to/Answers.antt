use Rattle.std.proofs.Common.{rules}
use Rattle.spin_outside.proofs.ReadLoops.{front_more}
use Rattle.spin_outside.proofs.shelf.read_up_to.Goals as goal

pub returns-then-count-limit-clause-front : goal.returns-then-count-limit-clause-front
returns-then-count-limit-clause-front g c =
    front_more _ (g.F.Shelf.seen c.loop-bytes.shelf) _ _ _ _ _ _ c.in_ok-count.ensures.some.0
    (search rules) c.loop-bytes.invariant.taken c.in_ok-count.ensures.taken.0 c.loop-bytes.invariant.files c.loop-bytes.invariant.named c.loop-bytes.invariant.under c.in_ok-count.ensures.under

pub returns-in_err-extend_from_slice-clause-front : goal.returns-in_err-extend_from_slice-clause-front
returns-in_err-extend_from_slice-clause-front g c =
    front_more _ (g.F.Shelf.seen c.loop-bytes.shelf) _ _ _ _ _ _ c.in_ok-count.ensures.some.0
    (search rules) c.loop-bytes.invariant.taken c.in_ok-count.ensures.taken.0 c.loop-bytes.invariant.files c.loop-bytes.invariant.named c.loop-bytes.invariant.under c.in_ok-count.ensures.under
