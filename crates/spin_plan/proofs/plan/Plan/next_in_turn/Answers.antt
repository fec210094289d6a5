use Rattle.std.proofs.Common.{◌∙◌, sym, arith, None}
use Rattle.spin_plan.proofs.CandidateWalks.{asked_more, in_turn, none_with}
use Rattle.spin_plan.proofs.plan.Plan.next_in_turn.Goals as goal

pub returns-then-admits_all-clause-steps : goal.returns-then-admits_all-clause-steps
returns-then-admits_all-clause-steps g c =
    let tests = g.C.Guards.tests c.args.guards.now in
    let args = c.args.args.now in
    let bs = c.args.self.now.bindings in
    let at = c.turns.at in
    let more = asked_more tests None args bs c.args.from at at _ c.turns.invariant.0 (in_turn tests args bs at _ c.binding.ensures) c.binding.ensures in
    omega (arith, c.turns.invariant.2, c.admits_all.ensures.steps, more)

pub turns-preserved : goal.turns-preserved
turns-preserved g c =
    let tests = g.C.Guards.tests c.args.guards.now in
    let args = c.args.args.now in
    let bs = c.args.self.now.bindings in
    let at = c.turns.at in
    let more = asked_more tests None args bs c.args.from at at _ c.turns.invariant.0 (in_turn tests args bs at _ c.binding.ensures) c.binding.ensures in (
      omega (arith, c.turns.invariant.0),
      none_with tests args bs c.args.from at _ c.turns.invariant.1 c.binding.ensures (sym c.admits_all.ensures.holds ∙ c.if-admits_all.false),
      omega (arith, c.turns.invariant.2, c.admits_all.ensures.steps, more),
    )
