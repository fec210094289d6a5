use Rattle.std.proofs.Common.{◌+◌, ◌-◌, ◌≤◌, length, None}
use Rattle.spin_plan.specs.Next.{NonePass, guards_hold}
use Rattle.spin_plan.proofs.CandidateWalks.{asked}
use Rattle.spin_plan.proofs.plan.Plan.next_in_turn.Given as goal

abbrev pub invariant-turns : goal.invariant-turns
invariant-turns g l =
    let tests = g.C.Guards.tests l.guards in
    (l.fn.from ≤ l.at) × NonePass (guards_hold tests l.args) l.self.bindings l.fn.from l.at
    × (l.steps ≤ l.fn.steps + asked tests None l.args l.self.bindings l.fn.from l.at)

abbrev pub decreases-turns : goal.decreases-turns
decreases-turns g l = length l.self.bindings - l.at
