use Rattle.spin_host.proofs.GiftsTaken.{taking_starts, taking_on, taken_args, taken_items}
use Rattle.spin_host.proofs.gift.take_all.Goals as goal

pub loop-given-init : goal.loop-given-init
loop-given-init c = taking_starts _ c.reverse.new.self _ _ c.reverse.ensures

pub loop-given-preserved : goal.loop-given-preserved
loop-given-preserved c =
    taking_on _ _ _ c.in-Some.given _ _ _ _ _ _ c.loop-given.invariant c.in-Some.ensures c.in_ok-take_over.ensures.args c.in_ok-take_over.ensures.out

pub returns-clause-args : goal.returns-clause-args
returns-clause-args c = taken_args _ _ _ _ _ _ c.loop-given.invariant c.in_default.ensures.0

pub returns-clause-out : goal.returns-clause-out
returns-clause-out c = taken_items _ _ _ _ _ _ c.loop-given.invariant c.in_default.ensures.0
