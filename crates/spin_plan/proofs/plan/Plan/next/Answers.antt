use Rattle.std.proofs.Common.{arith}
use Rattle.spin_plan.proofs.plan.Plan.next.Goals as goal

pub returns-then-from-len-clause-next : goal.returns-then-from-len-clause-next
returns-then-from-len-clause-next g c = λ k low high. absurd (omega (arith, low, high, c.len.ensures, c.if-from-len.true))
