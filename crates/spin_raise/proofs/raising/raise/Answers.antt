use Rattle.std.proofs.Common.{◌∙◌, ap, true, []}
use Rattle.spin_raise.specs.Firing.{units_of, bound_of, fired, answer_of}
use Rattle.spin_raise.proofs.RaiseProgress.{goes_on, end_answer}
use Rattle.spin_raise.proofs.raising.raise.Goals as goal

pub turns-preserved : goal.turns-preserved
turns-preserved g c = goes_on _ _ _ _ _ _ _ _ _ _ _ c.turns.invariant (rw c.in-Ran.is at c.in_ok-step.ensures)

pub returns-in-End-clause-answer : goal.returns-in-End-clause-answer
returns-in-End-clause-answer g c =
    let a = c.args in
    let u = units_of a.cat.now in
    let e = bound_of a.plan.now.bindings a.merge.now a.default in
    end_answer true c.of-runner.result u e _ [] _ _ _ _ _ _ c.turns.invariant (rw c.in-End.is at c.in_ok-step.ensures)
    ∙ ap (λ by. answer_of a.merge.now (fired by u e a.args.now)) c.of-runner.ensures
