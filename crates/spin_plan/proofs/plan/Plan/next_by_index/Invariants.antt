use Rattle.std.proofs.Common.{◌+◌, ◌-◌, ◌≤◌, length}
use Rattle.spin_plan.specs.Next.{NonePass, guards_hold}
use Rattle.spin_plan.proofs.CandidateWalks.{asked}
use Rattle.spin_plan.proofs.plan.Plan.next_by_index.Given as goal

abbrev pub invariant-candidates : goal.invariant-candidates
invariant-candidates g l =
    let tests = g.C.Guards.tests l.guards in
    (l.fn.from ≤ l.at) × NonePass (guards_hold tests l.args) l.self.bindings l.fn.from l.at
    × (l.steps ≤ l.fn.steps + asked tests l.self.key l.args l.self.bindings l.fn.from l.at)

abbrev pub decreases-candidates : goal.decreases-candidates
decreases-candidates g l = length l.self.bindings - l.at
