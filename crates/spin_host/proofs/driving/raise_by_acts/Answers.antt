use Rattle.spin_raise.specs.Firing.{units_of, as_found}
use Rattle.spin_host.proofs.DrivenRaises.{any_type, driven_first, driven_on, falls, driven_answer, driven_items}
use Rattle.spin_host.proofs.driving.raise_by_acts.Goals as goal

pub turns-init : goal.turns-init
turns-init g c = driven_first (units_of c.args.cat.now) (as_found c.args.bound.now) c.args.args c.begin-frame.result c.args.out.now c.begin-frame.ensures.begins

pub turns-smaller : goal.turns-smaller
turns-smaller g c =
    falls (units_of c.args.cat.now) (as_found c.args.bound.now) c.args.args c.args.out.now c.turns.frame c.next.new.self c.do_act.new.self c.turns.out c.do_act.new.out
    c.next.ensures.stays c.next.ensures.same.1 c.next.ensures.same.2 (c.in_ok-do_act.ensures.told any_type) c.turns.invariant

pub turns-preserved : goal.turns-preserved
turns-preserved g c =
    driven_on (units_of c.args.cat.now) (as_found c.args.bound.now) c.args.args c.args.out.now c.turns.frame c.next.new.self c.do_act.new.self c.turns.out c.do_act.new.out
    c.next.ensures.stays (c.in_ok-do_act.ensures.told any_type) c.turns.invariant

pub returns-clause-answer : goal.returns-clause-answer
returns-clause-answer g c =
    driven_answer (units_of c.args.cat.now) (as_found c.args.bound.now) c.args.args c.args.out.now c.turns.frame c.turns.out _ c.in_default.ensures.firing.1 c.turns.invariant

pub returns-clause-out : goal.returns-clause-out
returns-clause-out g c =
    driven_items (units_of c.args.cat.now) (as_found c.args.bound.now) c.args.args c.args.out.now c.turns.frame c.turns.out _ c.in_default.ensures.firing.1 c.turns.invariant
