use Rattle.std.proofs.Common.{arith, ◌∷◌, suc, get_or, subst, ◌<◌, length}
use Rattle.std.proofs.lemmas.Grind.{common_steps}
use Rattle.std.proofs.lemmas.Option.{slice_get-get_or}
use Rattle.spin_plan.proofs.RequirementLemmas.{first_at, none_more}
use Rattle.spin_plan.proofs.reads.required_of.Goals as goal

pub returns-then-is_some-2 : goal.returns-then-is_some-2
returns-then-is_some-2 g c =
    let tests = g.C.Guards.tests c.args.guards.now in
    let b = c.args.binding.now in
    let i = c.loop-guard.guard-index in
    let guard = get_or b.imposed i 0 in
    let lt = subst (λ xs. i < length xs) c.as_slice-guard-items.ensures c.loop-guard-test.true in
    let there = slice_get-get_or b.imposed i 0 lt in
    let done = first_at tests c.args.e.now (b.own_guard ∷ b.imposed) (suc i) guard c.required_of_guard-imposed.result c.loop-guard.invariant there in
    grind (arith, common_steps, done)

pub loop-guard-preserved : goal.loop-guard-preserved
loop-guard-preserved g c =
    let tests = g.C.Guards.tests c.args.guards.now in
    let b = c.args.binding.now in
    let i = c.loop-guard.guard-index in
    let lt = subst (λ xs. i < length xs) c.as_slice-guard-items.ensures c.loop-guard-test.true in
    let more = none_more tests c.args.e.now b.own_guard b.imposed i (get_or b.imposed i 0) c.required_of_guard-imposed.result c.loop-guard.invariant lt in
    grind (arith, common_steps, more)
