use Rattle.std.proofs.Common.{List, length, reverse, Some, None, refl, sym, subst, ◌∙◌}
use Rattle.std.proofs.lemmas.Bool.{eqb-true}
use Rattle.std.proofs.lemmas.List.{nil_from_length}
use Rattle.spin_code.specs.declared.test.Test.{Test}
use Rattle.spin_objects.specs.Units.{tests_of}
use Rattle.spin_plan.specs.Planned.{IsOver}
use Rattle.spin_raise.specs.Firing.{units_of, bound_of, IsThere}
use Rattle.spin_table.specs.SetupOf.{data_of}
use Rattle.spin_proto.specs.Replies.{units_in}
use Rattle.spin_proto.specs.Whole.{raised_after, marks_of}
use Rattle.spin_proto.proofs.WalkLemmas.{owes_all}
use Rattle.spin_proto.proofs.RaiseTurns.{follow_on, follow_spent, rest_rises, begins_owing, turn_too_many, turn_short, turn_over, turn_answer}
use Rattle.spin_proto.proofs.RaiseTurns.{turn_rises, turn_waits, turn_end, turn_shorter, begins, comes_at}
use Rattle.spin_proto.proofs.RaiseLemmas.{served, bound_here}
use Rattle.spin_proto.proofs.TurnedLists.{taken, turned_back, nothing_turned}
use Rattle.spin_proto.proofs.rising.+raise_event.Goals as goal

pub turns-init : goal.turns-init
turns-init g t c =
    let a = c.args in
    let d = data_of a.setup.now in
    let s = a.version.now.state in
    let e = c.event-def.result.now in
    let b = bound_of c.plan-plan.result.now.bindings e.merge c.default_of-default.result in
    let serving =
    served d s a.event e c.plan-plan.result.now.bindings c.default_of-default.result c.requires.sound.state c.event-def.ensures c.default_of-default.ensures c.plan-plan.ensures.order a.setup.now.sound in
    let p = a.progress.now in
    let from = begins (length s.events) a.event a.runner (units_in d) b p p.args serving c.requires.from c.requires.answer refl in (
      (λ bounds are. begins_owing (marks_of a.event (raised_after a.runner (units_in d) bounds a.event)) a.runner
          (units_in d) b p p.args a.walk.now c.requires.from c.requires.answer refl),
      from.0,
      from.1,
      c.new-ups.ensures,
    )

pub turn-requires-clause-there : goal.turn-requires-clause-there
turn-requires-clause-there g t c =
    let a = c.args in
    let d = data_of a.setup.now in
    let e = c.event-def.result.now in
    let b = bound_of c.plan-plan.result.now.bindings e.merge c.default_of-default.result in
    let serving = served d a.version.now.state a.event e c.plan-plan.result.now.bindings c.default_of-default.result
    c.requires.sound.state c.event-def.ensures c.default_of-default.ensures c.plan-plan.ensures.order a.setup.now.sound in
    subst (λ cat. IsThere (units_of cat) b) (sym c.catalogue-cat.ensures) serving.there

pub turn-requires-clause-over : goal.turn-requires-clause-over
turn-requires-clause-over g t c =
    let a = c.args in
    let over = subst (λ (tests : List Test). IsOver tests c.plan-plan.result.now) c.requires.sound.tests c.plan-plan.ensures.over in
    subst (λ cat. IsOver (tests_of cat) c.plan-plan.result.now) (sym c.catalogue-cat.ensures) over

pub turn-requires-clause-none : goal.turn-requires-clause-none
turn-requires-clause-none g t c = c.turns.invariant.3

pub returns-in-End : goal.returns-in-End
returns-in-End g t c = λ bounds are.
    let a = c.args in
    let d = data_of a.setup.now in
    let e = c.event-def.result.now in
    let b = bound_of c.plan-plan.result.now.bindings e.merge c.default_of-default.result in
    let here = bound_here d a.version.now.state a.event e c.plan-plan.result.now.bindings c.default_of-default.result
    c.requires.sound.state c.event-def.ensures c.default_of-default.ensures c.plan-plan.ensures.order bounds are in
    let ended = rw c.in-End.is at (rw c.catalogue-cat.ensures at c.in_ok-turn.ensures) in
    comes_at a.runner (units_in d) bounds b a.event a.progress.now.args (Some c.turn.new.progress.answer) a.walk.now c.turn.new.walk here
    (turn_end e.merge _ _ (marks_of a.event (raised_after a.runner (units_in d) bounds a.event)) _ _ _ a.walk.now c.turns.walk c.turn.new.walk
    ended.0 ended.1 ended.3 (c.turns.invariant.0 bounds are) c.turns.invariant.1)

pub returns-in-Full : goal.returns-in-Full
returns-in-Full g t c = λ bounds are.
    let a = c.args in
    let d = data_of a.setup.now in
    let e = c.event-def.result.now in
    let b = bound_of c.plan-plan.result.now.bindings e.merge c.default_of-default.result in
    let here = bound_here d a.version.now.state a.event e c.plan-plan.result.now.bindings c.default_of-default.result
    c.requires.sound.state c.event-def.ensures c.default_of-default.ensures c.plan-plan.ensures.order bounds are in
    let short = rw c.in-Full.is at (rw c.catalogue-cat.ensures at c.in_ok-turn.ensures) in
    comes_at a.runner (units_in d) bounds b a.event a.progress.now.args None a.walk.now c.turn.new.walk here
    (turn_too_many a.event (raised_after a.runner (units_in d) bounds a.event) _ _ a.walk.now c.turns.walk short (c.turns.invariant.0 bounds are))

pub turns-smaller-then-is_empty : goal.turns-smaller-then-is_empty
turns-smaller-then-is_empty g t c =
    let turned = rw c.in-Ran.is at (rw c.catalogue-cat.ensures at c.in_ok-turn.ensures) in
    turn_shorter _ _ _ _ _ _ _ _ turned.1

pub turns-preserved-then-is_empty : goal.turns-preserved-then-is_empty
turns-preserved-then-is_empty g t c =
    let a = c.args in
    let d = data_of a.setup.now in
    let turned = rw c.in-Ran.is at (rw c.catalogue-cat.ensures at c.in_ok-turn.ensures) in
    let none = nil_from_length c.turn.new.ups (eqb-true _ _ (sym c.is_empty.ensures ∙ c.if-is_empty.true)) in (
      (λ bounds are. turn_over a.event (raised_after a.runner (units_in d) bounds a.event) _ _ _ _ _ _ _ _ _ c.turn.new.ups c.turn.new.ups a.walk.now c.turns.walk c.turn.new.walk c.turn.new.walk turned.1
          (c.turns.invariant.0 bounds are) refl turned.2 none (owes_all _ _)),
      turn_answer _ _ _ _ _ _ _ _ _ turned.1 c.turns.invariant.1,
      turn_rises (length a.version.now.state.events) a.event _ _ _ _ _ _ _ _ turned.1 c.turns.invariant.2,
      none,
    )

pub loop-up-init : goal.loop-up-init
loop-up-init g t c =
    let a = c.args in
    let d = data_of a.setup.now in
    let turned = rw c.in-Ran.is at (rw c.catalogue-cat.ensures at c.in_ok-turn.ensures) in
    let stepped = turned.1 in
    let notes = turned.2 in
    let waiting = (turned_back _ _ c.reverse.ensures) in
    ((λ bounds are. owes_all _ _), turn_waits (length a.version.now.state.events) a.event _ _ _ _ _ _ _ _ _ stepped c.turns.invariant.2 waiting notes.0)

pub returns-in-None : goal.returns-in-None
returns-in-None g t c = λ bounds are.
    let a = c.args in
    let d = data_of a.setup.now in
    let e = c.event-def.result.now in
    let b = bound_of c.plan-plan.result.now.bindings e.merge c.default_of-default.result in
    let here = bound_here d a.version.now.state a.event e c.plan-plan.result.now.bindings c.default_of-default.result
    c.requires.sound.state c.event-def.ensures c.default_of-default.ensures c.plan-plan.ensures.order bounds are in
    let turned = rw c.in-Ran.is at (rw c.catalogue-cat.ensures at c.in_ok-turn.ensures) in
    let stepped = turned.1 in
    let notes = turned.2 in
    let waiting = (turned_back _ _ c.reverse.ensures) in
    let came = rw c.in-None.is at c.in_ok-raise_event-in-Ran.ensures in
    let short = follow_spent a.runner (units_in d) bounds (length a.version.now.state.events) a.event _ c.in-Some.up _ (reverse c.pop.new.self)
    _ _ _ c.raise_event.new.walk (taken _ c.pop.new.self c.in-Some.up c.in-Some.ensures) c.loop-up.invariant.1 (c.loop-up.invariant.0 bounds are) c.in_ok-note-in-Ran.ensures (came bounds are) in
    comes_at a.runner (units_in d) bounds b a.event a.progress.now.args None a.walk.now c.raise_event.new.walk here
    (turn_short a.event (raised_after a.runner (units_in d) bounds a.event) _ _ _ _ _ _ _ _ _ _ a.walk.now c.turns.walk c.turn.new.walk stepped
    (c.turns.invariant.0 bounds are) waiting notes short)

pub loop-up-preserved : goal.loop-up-preserved
loop-up-preserved g t c =
    let a = c.args in
    let came = rw c.in-Some-2.is at c.in_ok-raise_event-in-Ran.ensures in (
      (λ bounds are.
          follow_on a.runner (units_in (data_of a.setup.now)) bounds (length a.version.now.state.events) a.event _ c.in-Some.up _ (reverse c.pop.new.self) c.in-Some-2.answer _ _ _ _ _
          (taken _ c.pop.new.self c.in-Some.up c.in-Some.ensures) c.loop-up.invariant.1 (c.loop-up.invariant.0 bounds are) c.in_ok-note-in-Ran.ensures
          (came bounds are) c.in_ok-note-in-Some-2.ensures),
      rest_rises (length a.version.now.state.events) a.event c.in-Some.up _ (reverse c.pop.new.self) (taken _ c.pop.new.self c.in-Some.up c.in-Some.ensures) c.loop-up.invariant.1,
    )

pub turns-smaller : goal.turns-smaller
turns-smaller g t c =
    let turned = rw c.in-Ran.is at (rw c.catalogue-cat.ensures at c.in_ok-turn.ensures) in
    turn_shorter _ _ _ _ _ _ _ _ turned.1

pub turns-preserved : goal.turns-preserved
turns-preserved g t c =
    let a = c.args in
    let d = data_of a.setup.now in
    let turned = rw c.in-Ran.is at (rw c.catalogue-cat.ensures at c.in_ok-turn.ensures) in
    let stepped = turned.1 in
    let notes = turned.2 in
    let waiting = (turned_back _ _ c.reverse.ensures) in (
      (λ bounds are. turn_over a.event (raised_after a.runner (units_in d) bounds a.event) _ _ _ _ _ _ _ _ _ _ _ a.walk.now c.turns.walk c.turn.new.walk c.loop-up.walk stepped
          (c.turns.invariant.0 bounds are) waiting notes
          (nothing_turned c.loop-up.ups c.in_default.ensures.0) (c.loop-up.invariant.0 bounds are)),
      turn_answer _ _ _ _ _ _ _ _ _ stepped c.turns.invariant.1,
      turn_rises (length a.version.now.state.events) a.event _ _ _ _ _ _ _ _ stepped c.turns.invariant.2,
      c.in_default.ensures.1,
    )
