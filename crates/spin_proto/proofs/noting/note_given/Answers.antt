use Rattle.spin_proto.proofs.NotedItems.{noting_starts, noting_on, noting_short, noting_ends}
use Rattle.spin_proto.proofs.noting.note_given.Goals as goal

pub loop-item-init : goal.loop-item-init
loop-item-init c = noting_starts c.args.event _ c.reverse.new.self _ _ c.reverse.ensures c.clear.ensures

pub loop-item-preserved : goal.loop-item-preserved
loop-item-preserved c =
    let noted = c.in_ok-note_item.ensures in
    noting_on c.args.event _ _ _ c.in-Some.item _ _ _ _ _ _ _ c.loop-item.invariant c.in-Some.ensures (rw c.if-not-branch.false at noted.walk) noted.ups c.result_after-last.ensures

pub returns-then-not-branch-clause-noted : goal.returns-then-not-branch-clause-noted
returns-then-not-branch-clause-noted c =
    let noted = c.in_ok-note_item.ensures in
    noting_short c.args.event _ _ _ c.in-Some.item _ _ _ _ c.loop-item.invariant c.in-Some.ensures (rw c.if-not-branch.true at noted.walk)

pub returns-clause-noted : goal.returns-clause-noted
returns-clause-noted c = (noting_ends c.args.event _ _ _ _ _ _ c.loop-item.invariant c.in_default.ensures.0).0

pub returns-clause-last : goal.returns-clause-last
returns-clause-last c = (noting_ends c.args.event _ _ _ _ _ _ c.loop-item.invariant c.in_default.ensures.0).1
