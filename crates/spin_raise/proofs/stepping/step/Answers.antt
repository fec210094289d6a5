use Rattle.std.proofs.Common.{refl, ap, arith, length, ◌∙◌}
use Rattle.std.proofs.lemmas.Bool.Decides.{nat_tests}
use Rattle.spin_raise.specs.declared.answer.Answer.TheVariants as answer
use Rattle.spin_objects.specs.Units.{acts_of}
use Rattle.spin_raise.specs.Firing.{units_of, as_found, firing_of, IsHandler}
use Rattle.spin_raise.proofs.RaiseSteps.{all_here, is_full, is_ran, comes_binding, comes_after, comes_nothing, comes_default, comes_no_more, merged_after}
use Rattle.spin_raise.proofs.stepping.step.Goals as goal

pub returns-then-handler-eq0 : goal.returns-then-handler-eq0
returns-then-handler-eq0 g c =
    let a = c.args in (
      comes_nothing a.runner (units_of a.cat.now)
          (as_found a.bound.now) a.progress.now c.default_next-handler.result c.in-None.ensures.next c.default_next-handler.ensures c.if-handler-eq0.true,
      (refl, refl),
    )

pub returns-then-not-room : goal.returns-then-not-room
returns-then-not-room g c =
    let a = c.args in
    let comes = comes_binding a.runner (units_of a.cat.now) (as_found a.bound.now) a.progress.now c.in-Some.at c.binding-binding.result.now c.in-Some.ensures.next c.binding-binding.ensures in
    is_full a.bound.now.merge.now a.room _ _ _ _ _ _ _ _ comes c.if-not-room.true comes (refl, refl)

pub fire-requires-clause-first : goal.fire-requires-clause-first
fire-requires-clause-first g c =
    (all_here (IsHandler (length (acts_of c.args.cat.now))) c.args.bound.now.plan.now.bindings c.in-Some.at c.binding-binding.result.now c.requires.there.handlers c.binding-binding.ensures).0

pub fire-requires-clause-last : goal.fire-requires-clause-last
fire-requires-clause-last g c =
    (all_here (IsHandler (length (acts_of c.args.cat.now))) c.args.bound.now.plan.now.bindings c.in-Some.at c.binding-binding.result.now c.requires.there.handlers c.binding-binding.ensures).1

pub returns-in_ok-progress-in-Some : goal.returns-in_ok-progress-in-Some
returns-in_ok-progress-in-Some g c =
    let a = c.args in
    let u = units_of a.cat.now in
    let e = as_found a.bound.now in
    let p = a.progress.now in
    let m = a.bound.now.merge.now in
    let b = c.binding-binding.result.now in
    let h = c.in_ok-word-in-Some.ensures in
    let so_far = c.in_ok-progress-in-Some.ensures ∙ merged_after m p.answer a.runner u b p.args c.in_ok-word-in-Some.word h.merged in
    is_ran m a.room _ _ (firing_of a.runner u b p.args) _ _ _ _ _
    (comes_binding a.runner u e p c.in-Some.at b c.in-Some.ensures.next c.binding-binding.ensures)
    c.if-not-room.false
    (comes_after a.runner u e m p.answer c.in_ok-progress-in-Some.field-0 (firing_of a.runner u b p.args) c.fire.new.args c.in-Some.at so_far h.args)
    record { items = h.out; so_far = so_far; left = h.args }

pub returns-in_ok-word-in-None : goal.returns-in_ok-word-in-None
returns-in_ok-word-in-None g c =
    let a = c.args in
    let u = units_of a.cat.now in
    let e = as_found a.bound.now in
    let h = c.in_ok-word-in-None.ensures in
    is_ran a.bound.now.merge.now a.room _ _ _ _ _ _ _ _
    (comes_default a.runner u e a.progress.now c.default_next-handler.result c.in-None.ensures.next c.default_next-handler.ensures (grind (arith, nat_tests)))
    c.if-not-room-2.false
    (comes_no_more a.runner u e c.len-progress.result c.in_ok-word-in-None.word c.run_handler.new.args c.len-progress.ensures)
    record { items = h.out; so_far = ap answer.Default h.result; left = h.args }
