use Rattle.std.proofs.Common.{refl, arith, length, ◌∙◌}
use Rattle.std.proofs.lemmas.Bool.Decides.{nat_tests}
use Rattle.spin_objects.specs.Units.{acts_of}
use Rattle.spin_objects.specs.Doing.{items_of}
use Rattle.spin_raise.specs.Firing.{units_of, as_found, firing_of, steps_at, IsHandler}
use Rattle.spin_raise.proofs.RaiseSteps.{all_here, comes_binding, comes_after, comes_nothing, comes_default, comes_no_more, merged_after}
use Rattle.spin_proto.proofs.NotedTurns.{turn_short_of, turn_without_room, turn_ran, default_result}
use Rattle.spin_proto.proofs.turning.turn.Goals as goal

pub returns-then-walk-eq0 : goal.returns-then-walk-eq0
returns-then-walk-eq0 g c =
    let a = c.args in
    let comes = comes_binding a.runner (units_of a.cat.now) (as_found a.bound.now) a.progress.now c.in-Some.at c.binding-binding.result.now c.in-Some.ensures.next c.binding-binding.ensures in
    turn_without_room a.event _ _ _ a.walk.now comes c.if-walk-eq0.true

pub note_binding-requires-clause-first : goal.note_binding-requires-clause-first
note_binding-requires-clause-first g c =
    (all_here (IsHandler (length (acts_of c.args.cat.now))) c.args.bound.now.plan.now.bindings c.in-Some.at c.binding-binding.result.now c.requires.there.handlers c.binding-binding.ensures).0

pub note_binding-requires-clause-last : goal.note_binding-requires-clause-last
note_binding-requires-clause-last g c =
    (all_here (IsHandler (length (acts_of c.args.cat.now))) c.args.bound.now.plan.now.bindings c.in-Some.at c.binding-binding.result.now c.requires.there.handlers c.binding-binding.ensures).1

pub returns-in_default : goal.returns-in_default
returns-in_default g c =
    let a = c.args in
    let comes = comes_binding a.runner (units_of a.cat.now) (as_found a.bound.now) a.progress.now c.in-Some.at c.binding-binding.result.now c.in-Some.ensures.next c.binding-binding.ensures in
    turn_short_of a.event _ _ _ a.walk.now comes (rw c.in_default.is at c.in_ok-word-in-Some.ensures)

pub returns-then-handler-eq0 : goal.returns-then-handler-eq0
returns-then-handler-eq0 g c =
    let a = c.args in (
      comes_nothing a.runner (units_of a.cat.now)
          (as_found a.bound.now) a.progress.now c.default_next-handler.result c.in-None.ensures.next c.default_next-handler.ensures c.if-handler-eq0.true,
      refl,
      c.requires.none,
      refl,
    )

pub returns-in_default-2 : goal.returns-in_default-2
returns-in_default-2 g c =
    let a = c.args in
    let comes = comes_default a.runner (units_of a.cat.now) (as_found a.bound.now)
    a.progress.now c.default_next-handler.result c.in-None.ensures.next c.default_next-handler.ensures (grind (arith, nat_tests)) in
    turn_short_of a.event _ _ _ a.walk.now comes (rw c.in_default-2.is at c.in_ok-word-in-None.ensures)

pub returns-in_ok-progress-in-Some : goal.returns-in_ok-progress-in-Some
returns-in_ok-progress-in-Some g c =
    let a = c.args in
    let u = units_of a.cat.now in
    let e = as_found a.bound.now in
    let p = a.progress.now in
    let m = a.bound.now.merge.now in
    let b = c.binding-binding.result.now in
    let f = firing_of a.runner u b p.args in
    let noted = rw c.in-Some-2.is at c.in_ok-word-in-Some.ensures in
    let so_far = c.in_ok-progress-in-Some.ensures ∙ merged_after m p.answer a.runner u b p.args c.in-Some-2.word noted.0 in
    turn_ran m a.event _ _ f _ p _ _ a.walk.now _
    (comes_binding a.runner u e p c.in-Some.at b c.in-Some.ensures.next c.binding-binding.ensures)
    (comes_after a.runner u e m p.answer c.in_ok-progress-in-Some.field-0 f c.note_binding.new.args c.in-Some.at so_far noted.1)
    so_far noted.1 noted.2

pub returns-in-Some-3 : goal.returns-in-Some-3
returns-in-Some-3 g c =
    let a = c.args in
    let u = units_of a.cat.now in
    let e = as_found a.bound.now in
    let noted = rw c.in-Some-3.is at c.in_ok-word-in-None.ensures in
    turn_ran a.bound.now.merge.now a.event _ _ _ _ a.progress.now _ _ a.walk.now _
    (comes_default a.runner u e a.progress.now c.default_next-handler.result c.in-None.ensures.next c.default_next-handler.ensures (grind (arith, nat_tests)))
    (comes_no_more a.runner u e c.len-progress.result c.in-Some-3.word c.note_default.new.args c.len-progress.ensures)
    (default_result (items_of (steps_at u c.default_next-handler.result) a.progress.now.args) c.in-Some-3.word noted.0) noted.1 noted.2
