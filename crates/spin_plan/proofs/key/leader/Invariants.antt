use Rattle.std.proofs.Common.{take}
use Rattle.std.specs.Option.{option_map}
use Rattle.spin_plan.specs.Planned.{expr_of}
use Rattle.spin_plan.proofs.LeaderLemmas.{Noted}
use Rattle.spin_plan.proofs.key.leader.Given as goal

abbrev pub invariant-loop-e : goal.invariant-loop-e
invariant-loop-e l = Noted (take l.e-index l.reads) l.counts (option_map expr_of l.lead.leader) l.lead.times
